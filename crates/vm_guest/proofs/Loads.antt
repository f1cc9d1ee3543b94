-- Zeros and an image in a part of memory.
use Rattle.std.proofs.Common.{◌≡◌, ◌∙◌, ℕ, ◌+◌, ◌-◌, ◌≤◌, List, [], ◌∷◌, ◌++◌, length, take, replicate, refl, ap, sym, subst, arith}
use Rattle.std.specs.Prelude.{All}
use Rattle.std.proofs.lemmas.List.{length-replicate, take-replicate, drop-replicate, append-nil, drop_all}
use Rattle.std.proofs.lemmas.List.Elements.{All-head, All-tail, All-map}
use Rattle.mb_srec.specs.Image.{LiesBelow}
use Rattle.mb_walk.specs.Memory.{Contents, overwritten, part, with_contents, chunk_from, contents_from}
use Rattle.mb_walk.proofs.MemoryLemmas.{length-overwritten, overwritten-nothing}
use Rattle.mb_walk.proofs.Parts.{length-part, part-over, drop-over, take-over, over-split}
use Rattle.vm_guest.specs.Memory.{OnlyBetween}

-- ---- zeros

abbrev pub zeros : ℕ → List ℕ
zeros n = replicate n 0

pub length-zeros : (n : ℕ) → length (zeros n) ≡ n
length-zeros n = length-replicate n 0

-- zeros, and then more behind them
pub more_zeros : (ram : List ℕ) (base n k : ℕ) → base + (n + k) ≤ length ram
    → overwritten (overwritten ram base (replicate n 0)) (base + n) (replicate k 0) ≡ overwritten ram base (replicate (n + k) 0)
more_zeros ram base n k h =
    let count : length (zeros (n + k)) ≡ n + k = length-zeros (n + k) in
    ap (λ (front : List ℕ). overwritten (overwritten ram base front) (base + n) (replicate k 0)) (sym (take-replicate n (n + k) 0 (omega arith)))
    ∙ ap (λ (rest : List ℕ). overwritten (overwritten ram base (take n (replicate (n + k) 0))) (base + n) rest)
    (sym (drop-replicate n (n + k) 0 ∙ ap (λ (j : ℕ). replicate j 0) (let e : n + k - n ≡ k = omega arith in e)))
    ∙ over-split ram (zeros (n + k)) base n (omega (arith, count)) (omega (arith, count))

-- a part is zeros
pub part_zeros : (ram : List ℕ) (base size : ℕ) → base + size ≤ length ram → part (overwritten ram base (replicate size 0)) base size ≡ replicate size 0
part_zeros ram base size h =
    let count : length (zeros size) ≡ size = length-zeros size in
    let own : length (part ram base size) ≡ size = length-part ram base size h in
    ap (λ (at : ℕ). part (overwritten ram at (replicate size 0)) base size) (let e : base ≡ base + 0 = omega arith in e)
    ∙ part-over ram (zeros size) base size 0 (omega (arith, count)) h
    ∙ ap (λ (rest : List ℕ). [] ++ replicate size 0 ++ rest) (drop_all (0 + length (zeros size)) (part ram base size) (omega (arith, own, count)))
    ∙ append-nil (replicate size 0)

-- ---- what is changed within a part

pub only_over : (ram bytes : List ℕ) (from to at : ℕ) → from ≤ at → at + length bytes ≤ to → to ≤ length ram
    → OnlyBetween from to ram (overwritten ram at bytes)
only_over ram bytes from to at low high room = record {
  count = length-overwritten ram at bytes (omega arith);
  below = take-over ram bytes from at low (omega arith);
  above = drop-over ram bytes to at high room;
}

pub only_both : (from to : ℕ) (a b c : List ℕ) → OnlyBetween from to a b → OnlyBetween from to b c → OnlyBetween from to a c
only_both from to a b c first second = record {
  count = second.count ∙ first.count;
  below = second.below ∙ first.below;
  above = second.above ∙ first.above;
}

pub only_same : (from to : ℕ) (a : List ℕ) → OnlyBetween from to a a
only_same from to a = record { count = refl; below = refl; above = refl }

-- ---- an image

-- a chunk in a part of memory
abbrev pub Loads : ℕ → ℕ → List ℕ → List ℕ → ℕ × List ℕ → Type 0
Loads base size ram after chunk =
    OnlyBetween base (base + size) ram after × (part after base size ≡ overwritten (part ram base size) chunk.0 chunk.1)

loads_chunk : (ram : List ℕ) (base size at : ℕ) (bytes : List ℕ) → base + size ≤ length ram → LiesBelow size (at, bytes)
    → Loads base size ram (overwritten ram (base + at) bytes) (at, bytes)
loads_chunk ram base size at [] room lies = (
  subst (OnlyBetween base (base + size) ram) (sym (overwritten-nothing ram (base + at) [] refl)) (only_same base (base + size) ram),
  ap (λ (m : List ℕ). part m base size) (overwritten-nothing ram (base + at) [] refl)
      ∙ sym (overwritten-nothing (part ram base size) at [] refl),
)
loads_chunk ram base size at (byte ∷ bytes) room lies =
    let inside : at + length (byte ∷ bytes) ≤ size = lies (omega arith) in (
      only_over ram (byte ∷ bytes) base (base + size) (base + at) (omega arith) (omega arith) room,
      part-over ram (byte ∷ bytes) base size at inside room,
    )

-- all chunks in turn
abbrev pub LoadsAll : ℕ → ℕ → List ℕ → List ℕ → Contents → Type 0
LoadsAll base size ram after contents =
    OnlyBetween base (base + size) ram after × (part after base size ≡ with_contents (part ram base size) contents)

pub loads_all : (ram : List ℕ) (base size : ℕ) (contents : Contents) → base + size ≤ length ram → All (LiesBelow size) contents
    → LoadsAll base size ram (with_contents ram (contents_from base contents)) contents
loads_all ram base size [] room lie = (only_same base (base + size) ram, refl)
loads_all ram base size (chunk ∷ contents) room lie =
    let first = loads_chunk ram base size chunk.0 chunk.1 room (All-head (LiesBelow size) chunk contents lie) in
    let once = overwritten ram (base + chunk.0) chunk.1 in
    let count : length once ≡ length ram = first.0.count in
    let rest = loads_all once base size contents (omega arith) (All-tail (LiesBelow size) chunk contents lie) in (
      only_both base (base + size) ram once (with_contents once (contents_from base contents)) first.0 rest.0,
      rest.1 ∙ ap (λ (m : List ℕ). with_contents m contents) first.1,
    )

-- chunks that lie in a part lie in memory
pub lie_inside : (ram base size : ℕ) (contents : Contents) → base + size ≤ ram → All (LiesBelow size) contents
    → All (LiesBelow ram) (contents_from base contents)
lie_inside ram base size contents room lie =
    All-map (LiesBelow ram) (chunk_from base) contents (λ k d within some. let inside = lie k d within some in omega (arith, inside))
