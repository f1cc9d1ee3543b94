-- Writing a chunk record by record.
use Rattle.std.proofs.Common.{◌≡◌, ℕ, suc, ◌+◌, ◌/◌, ◌≤◌, ◌<◌, List, ◌∷◌, ◌++◌, length, map, take, drop, get_or, min, sym, ap, subst, ◌∙◌}
use Rattle.std.proofs.Common.{add-one, append_assoc, drop-cons, inl, inr, arith}
use Rattle.std.specs.Prelude.{All}
use Rattle.std.specs.List.{flat_map}
use Rattle.std.proofs.lemmas.List.Concat.{flat_map-cons}
use Rattle.std.proofs.lemmas.Bool.{cases_lt}
use Rattle.std.proofs.lemmas.List.{append-nil, drop_all, get_or-map, length-drop, length-map, take_min}
use Rattle.mb_srec.specs.declared.image.Chunk.{Chunk}
use Rattle.mb_srec.specs.Image.{all_contents, content_of}
use Rattle.mb_srec.specs.Written.{data_line, data_lines, chunk_lines}

-- a record, and the records of what is left
pub first_record : (at : ℕ) (bytes : List ℕ) → 0 < length bytes → chunk_lines (at, bytes) ≡ data_line at (take 16 bytes) ++ chunk_lines (at + 16, drop 16 bytes)
first_record at bytes some =
    let one_more : (length bytes + 15) / 16 ≡ suc ((length (drop 16 bytes) + 15) / 16) = omega (arith, length-drop 16 bytes) in
    ap (λ (n : ℕ). data_lines n at bytes) one_more

drop_min : {X : Type 0} (n : ℕ) (xs : List X) → drop (min (length xs) n) xs ≡ drop n xs
drop_min n xs =
    elim (cases_lt (length xs) n) [
      | inl short ↦
          let least : min (length xs) n ≡ length xs = omega arith in
          rw least (drop_all (length xs) xs (omega arith) ∙ sym (drop_all n xs (omega arith)))
      | inr long ↦ ap (λ (k : ℕ). drop k xs) (omega arith)
    ]

pub pushed : (old new piece after bytes : List ℕ) (at : ℕ) → 0 < length bytes → new ≡ old ++ data_line at piece → piece ≡ take (min (length bytes) 16) bytes
    → after ≡ drop (min (length bytes) 16) bytes → new ++ chunk_lines (at + 16, after) ≡ old ++ chunk_lines (at, bytes)
pushed old new piece after bytes at some written front back =
    let least : min (length bytes) 16 ≡ min 16 (length bytes) = omega arith in
    let front-is : piece ≡ take 16 bytes = front ∙ ap (λ (k : ℕ). take k bytes) least ∙ take_min 16 bytes in
    let back-is : after ≡ drop 16 bytes = back ∙ drop_min 16 bytes in
    rw (written, front-is, back-is, first_record at bytes some) (append_assoc old (data_line at (take 16 bytes)) (chunk_lines (at + 16, drop 16 bytes)))

-- ---- chunk by chunk

-- what holds of each chunk's contents holds of this one's
pub of_chunk : (P : ℕ × List ℕ → Type 0) (chunks : List Chunk) (i : ℕ) (chunk : Chunk) → i < length chunks → chunk ≡ get_or chunks i chunk
    → All P (all_contents chunks) → P (content_of chunk)
of_chunk P chunks i chunk within there all =
    let here : get_or (map content_of chunks) i (content_of chunk) ≡ content_of chunk = get_or-map content_of chunks i chunk (content_of chunk) within
    ∙ ap content_of (sym there) in
    subst P here (all i (content_of chunk) (omega (arith, length-map chunks content_of)))

pub chunk_pushed : (old new : List ℕ) (chunks : List Chunk) (i : ℕ) (chunk : Chunk) → i < length chunks → chunk ≡ get_or chunks i chunk
    → new ≡ old ++ chunk_lines (content_of chunk)
    → new ++ flat_map chunk_lines (all_contents (drop (i + 1) chunks)) ≡ old ++ flat_map chunk_lines (all_contents (drop i chunks))
chunk_pushed old new chunks i chunk within there written =
    let left = all_contents (drop (suc i) chunks) in
    let first : drop i chunks ≡ chunk ∷ drop (suc i) chunks = drop-cons chunks i chunk within ∙ ap (λ (c : Chunk). c ∷ drop (suc i) chunks) (sym there) in
    rw (written, first, add-one, flat_map-cons chunk_lines (content_of chunk) left)
    (append_assoc old (chunk_lines (content_of chunk)) (flat_map chunk_lines left))

pub all_written : (header text new end : List ℕ) (chunks : List Chunk) (i : ℕ) (contents : List (ℕ × List ℕ)) → length chunks ≤ i
    → text ++ flat_map chunk_lines (all_contents (drop i chunks)) ≡ header ++ flat_map chunk_lines contents → new ≡ text ++ end
    → new ≡ header ++ flat_map chunk_lines contents ++ end
all_written header text new end chunks i contents past so_far written =
    let none : text ++ flat_map chunk_lines (all_contents (drop i chunks)) ≡ text =
    ap (λ (cs : List Chunk). text ++ flat_map chunk_lines (all_contents cs)) (drop_all i chunks past) ∙ append-nil text in
    written ∙ ap (λ (t : List ℕ). t ++ end) (sym none ∙ so_far)
