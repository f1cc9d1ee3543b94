-- What is written is read back.
use Rattle.std.proofs.Math.Seq.{take-append_seam, get_or-append_seam}
use Rattle.std.proofs.Common.{◌≡◌, ℕ, zero, suc, ◌+◌, ◌-◌, ◌*◌, ◌/◌, ◌%◌, ◌^◌, ◌≤◌, ◌<◌, Bool, true, false, ◌&&◌, ltb, List, [], ◌∷◌, ◌++◌}
use Rattle.std.proofs.Common.{length, take, drop, get_or, Option, Some, None, Result, Ok, refl, sym, ap, subst, ◌∙◌}
use Rattle.std.proofs.Common.{append_assoc, inl, inr, arith}
use Rattle.std.specs.Prelude.{All, slice_get, codes}
use Rattle.std.specs.List.{AllByRecursion, flat_map, list_all}
use Rattle.std.specs.Option.{option_or}
use Rattle.std.proofs.lemmas.Bool.{cases_lt, lt-ltb, le-ltb, lt-leb, ltb-true, eq-eqb}
use Rattle.std.proofs.lemmas.List.{append-nil, length-append, length-drop, length-take, get_or_past}
use Rattle.std.proofs.lemmas.List.Concat.{flat_map-cons}
use Rattle.std.proofs.lemmas.List.Elements.{All-cons, All-take, All-drop, recursion_from_All}
use Rattle.std.proofs.lemmas.List.Sums.{AllPass-from_list_all}
use Rattle.std.proofs.lemmas.Option.{slice_get_past}
use Rattle.hex.proofs.OnLiterals.{hex_on_literals}
use Rattle.hex.specs.Hex.{IsBytes, encode_upper, is_hex_digit}
use Rattle.hex.proofs.HexLemmas.{decode_of-encode_upper, decode_of-ok}
use Rattle.byteorder.specs.Endian.{big_bytes, big_number}
use Rattle.byteorder.specs.Numbers.{big_number-reads_back}
use Rattle.mb_lines.specs.Lines.{Line, lines_in, numbered_from}
use Rattle.mb_lines.proofs.Written.{IsPlain, first_written, none_written}
use Rattle.mb_srec.specs.Faults.{Fault}
use Rattle.mb_srec.specs.declared.kind.Kind.TheVariants.{S3}
use Rattle.mb_srec.specs.Image.{LiesBelow, byte_of, byte_at}
use Rattle.mb_lines.specs.Results.{◌>>=◌}
use Rattle.mb_srec.specs.Records.{Data, Reading, checksum_of, summed, has_its_length, has_its_checksum, said_by, record_of}
use Rattle.mb_srec.specs.Records.{after_line, after_lines, beginning, at_end, records_of}
use Rattle.mb_srec.specs.Written.{IsContent, SameBytes, counted, data_line, data_lines, chunk_lines, header_line, end_line, text_of}
use Rattle.mb_srec.proofs.Outside.{all_inside}

-- ---- bytes at addresses

slice_get-take : (n : ℕ) (bytes : List ℕ) (i : ℕ) → i < n → slice_get (take n bytes) i ≡ slice_get bytes i
slice_get-take zero bytes i h = absurd (omega arith)
slice_get-take (suc n) [] i h = refl
slice_get-take (suc n) (b ∷ bytes) zero h = refl
slice_get-take (suc n) (b ∷ bytes) (suc i) h = slice_get-take n bytes i (omega arith)

slice_get-drop : (n : ℕ) (bytes : List ℕ) (i j : ℕ) → i ≡ n + j → slice_get (drop n bytes) j ≡ slice_get bytes i
slice_get-drop zero bytes i j e = ap (slice_get bytes) (omega arith)
slice_get-drop (suc n) [] i j e = refl
slice_get-drop (suc n) (b ∷ bytes) zero j e = absurd (omega arith)
slice_get-drop (suc n) (b ∷ bytes) (suc i) j e = slice_get-drop n bytes i j (omega arith)

-- the chunks that n records read as
pieces : ℕ → ℕ → List ℕ → List (ℕ × List ℕ)
pieces zero at bytes = []
pieces (suc n) at bytes = (at, take 16 bytes) ∷ pieces n (at + 16) (drop 16 bytes)

option_or_none : (x : Option ℕ) → option_or x None ≡ x
option_or_none None = refl
option_or_none (Some x) = refl

option_or_assoc : (x y z : Option ℕ) → option_or (option_or x y) z ≡ option_or x (option_or y z)
option_or_assoc None y z = refl
option_or_assoc (Some x) y z = refl

byte_at-append : (xs ys : List (ℕ × List ℕ)) (address : ℕ) → byte_at (xs ++ ys) address ≡ option_or (byte_at ys address) (byte_at xs address)
byte_at-append [] ys address = sym (option_or_none (byte_at ys address))
byte_at-append (x ∷ xs) ys address =
    ap (λ (o : Option ℕ). option_or o (byte_of x address)) (byte_at-append xs ys address)
    ∙ option_or_assoc (byte_at ys address) (byte_at xs address) (byte_of x address)

-- the first 16 bytes of a chunk and the others
byte_of-parts : (at : ℕ) (bytes : List ℕ) (address : ℕ)
    → option_or (byte_of (at + 16, drop 16 bytes) address) (byte_of (at, take 16 bytes) address) ≡ byte_of (at, bytes) address
byte_of-parts at bytes address =
    elim (cases_lt address at) [
      | inl before ↦ rw (lt-ltb address at before, lt-ltb address (at + 16) (omega arith)) refl
      | inr from ↦
          elim (cases_lt address (at + 16)) [
            | inl first ↦ rw (le-ltb address at from, lt-ltb address (at + 16) first) (slice_get-take 16 bytes (address - at) (omega arith))
            | inr later ↦
                let none : slice_get (take 16 bytes) (address - at) ≡ None =
                slice_get_past (take 16 bytes) (address - at) (omega (arith, length-take 16 bytes)) in
                rw (le-ltb address at from, le-ltb address (at + 16) later, none)
                (option_or_none (slice_get (drop 16 bytes) (address - (at + 16))) ∙ slice_get-drop 16 bytes (address - at) (address - (at + 16)) (omega arith))
          ]
    ]

no_byte : (at address : ℕ) (bytes : List ℕ) → length bytes ≡ 0 → byte_of (at, bytes) address ≡ None
no_byte at address [] h = elim (cases_lt address at) [ inl before ↦ rw (lt-ltb address at before) refl | inr from ↦ rw (le-ltb address at from) refl ]
no_byte at address (b ∷ bytes) h = absurd (omega arith)

byte_at-pieces : (n at : ℕ) (bytes : List ℕ) (address : ℕ) → length bytes ≤ 16 * n → byte_at (pieces n at bytes) address ≡ byte_of (at, bytes) address
unfolding pieces
byte_at-pieces zero at bytes address h = sym (no_byte at address bytes (omega arith))
byte_at-pieces (suc n) at bytes address h =
    ap (λ (o : Option ℕ). option_or o (byte_of (at, take 16 bytes) address))
    (byte_at-pieces n (at + 16) (drop 16 bytes) address (omega (arith, length-drop 16 bytes)))
    ∙ byte_of-parts at bytes address

-- ---- lines

digit_plain : (c : ℕ) → is_hex_digit c ≡ true → 13 < c
digit_plain c h =
    elim (cases_lt 13 c) [
      | inl above ↦ above
      | inr below ↦
          let none : is_hex_digit c ≡ false = rw (lt-leb 65 c (omega arith), lt-leb 97 c (omega arith), lt-leb 48 c (omega arith)) refl in
          absurd (let contrary : true ≡ false = sym h ∙ none in cc)
    ]

encoded_plain : (bytes : List ℕ) → IsBytes bytes → IsPlain (encode_upper bytes)
encoded_plain bytes fits k d lt =
    let digits = (decode_of-ok (encode_upper bytes) bytes (decode_of-encode_upper bytes fits)).1 in
    digit_plain (get_or (encode_upper bytes) k d) (digits k d lt)

-- ---- bytes of a record

bytes-cons : (b : ℕ) (bytes : List ℕ) → b < 256 → IsBytes bytes → IsBytes (b ∷ bytes)
bytes-cons b bytes fits all zero = fits
bytes-cons b bytes fits all (suc i) = all i

bytes-append : (xs ys : List ℕ) → IsBytes xs → IsBytes ys → IsBytes (xs ++ ys)
bytes-append [] ys hx hy = hy
bytes-append (x ∷ xs) ys hx hy = bytes-cons x (xs ++ ys) (hx 0) (bytes-append xs ys (λ i. hx (suc i)) hy)

bytes-of_all : (bytes : List ℕ) → All (λ b. b < 256) bytes → IsBytes bytes
bytes-of_all bytes all i =
    elim (cases_lt i (length bytes)) [
      | inl within ↦ all i 0 within
      | inr past ↦ rw (get_or_past bytes i 0 past) (omega arith)
    ]

bytes-big : (n x : ℕ) → IsBytes (big_bytes n x)
bytes-big zero x = λ i. omega arith
bytes-big (suc zero) x = bytes-cons (x % 256) [] (omega arith) (λ i. omega arith)
bytes-big (suc (suc n)) x = bytes-cons (x / 256 ^ suc n % 256) (big_bytes (suc n) x) (omega arith) (bytes-big (suc n) x)

-- the bytes of a written record
abbrev whole : ℕ → List ℕ → List ℕ
whole at bytes = counted at bytes ++ checksum_of (counted at bytes) ∷ []

bytes-whole : (at : ℕ) (bytes : List ℕ) → length bytes ≤ 16 → IsBytes bytes → IsBytes (whole at bytes)
bytes-whole at bytes short fits =
    let front : IsBytes (counted at bytes) =
    bytes-cons (length bytes + 5) (big_bytes 4 at ++ bytes) (omega arith) (bytes-append (big_bytes 4 at) bytes (bytes-big 4 at) fits) in
    bytes-append (counted at bytes) (checksum_of (counted at bytes) ∷ []) front
    (bytes-cons (checksum_of (counted at bytes)) [] (omega arith) (λ i. omega arith))

summed-push : (front : List ℕ) (last : ℕ) → summed (front ++ last ∷ []) ≡ front
summed-push front last =
    let len : length (front ++ last ∷ []) - 1 ≡ length front = omega (arith, length-append front (last ∷ [])) in
    ap (λ (n : ℕ). take n (front ++ last ∷ [])) len ∙ take-append_seam front (last ∷ [])

last-push : (front : List ℕ) (last : ℕ) → get_or (front ++ last ∷ []) (length (front ++ last ∷ []) - 1) 0 ≡ last
last-push front last =
    let len : length (front ++ last ∷ []) - 1 ≡ length front = omega (arith, length-append front (last ∷ [])) in
    ap (λ (n : ℕ). get_or (front ++ last ∷ []) n 0) len ∙ get_or-append_seam front last [] 0

and_true : (a b : Bool) → a ≡ true → b ≡ true → ((a && b) && true) ≡ true
and_true a b ha hb = rw (ha, hb) refl

whole_length : (at : ℕ) (bytes : List ℕ) → has_its_length S3 (whole at bytes) ≡ true
whole_length at bytes =
    let last = checksum_of (counted at bytes) in
    and_true _ _ (eq-eqb _ _ (omega (arith, length-append bytes (last ∷ [])))) (lt-ltb 4 (length bytes + 5) (omega arith))

whole_checksum : (at : ℕ) (bytes : List ℕ) → has_its_checksum (whole at bytes) ≡ true
whole_checksum at bytes =
    let front = counted at bytes in
    let last = checksum_of front in
    eq-eqb _ _ (last-push front last ∙ sym (ap checksum_of (summed-push front last)))

whole_said : (at : ℕ) (bytes : List ℕ) → at < 2 ^ 32 → said_by S3 (whole at bytes) ≡ Data at bytes
whole_said at bytes fits =
    let front = counted at bytes in
    let last = checksum_of front in
    let address : big_number 4 (drop 1 (whole at bytes)) ≡ at = ap (big_number 4) (append_assoc (big_bytes 4 at) bytes (last ∷ []))
    ∙ big_number-reads_back 4 at (bytes ++ last ∷ []) fits in
    let rest : drop 5 (summed (whole at bytes)) ≡ bytes = ap (drop 5) (summed-push front last) in
    ap (λ (a : ℕ). Data a (drop 5 (summed (whole at bytes)))) address ∙ ap (Data at) rest

record_read : (at : ℕ) (bytes : List ℕ) → length bytes ≤ 16 → IsBytes bytes → at < 2 ^ 32
    → record_of (codes "S3" ++ encode_upper (whole at bytes)) ≡ Ok (Data at bytes)
record_read at bytes short fits addressed =
    rw (
      decode_of-encode_upper (whole at bytes) (bytes-whole at bytes short fits),
      whole_length at bytes,
      whole_checksum at bytes,
      whole_said at bytes addressed,
    ) refl

-- ---- reading the lines

-- the records of a chunk, as many as were written
abbrev pieces_of : ℕ × List ℕ → List (ℕ × List ℕ)
pieces_of (at, bytes) = pieces ((length bytes + 15) / 16) at bytes

line_plain : (at : ℕ) (bytes : List ℕ) → length bytes ≤ 16 → IsBytes bytes → IsPlain (codes "S3" ++ encode_upper (whole at bytes))
line_plain at bytes short fits =
    let digits = encode_upper (whole at bytes) in
    All-cons (λ c. 13 < c) 83 (51 ∷ digits) (omega arith)
    (All-cons (λ c. 13 < c) 51 digits (omega arith) (encoded_plain (whole at bytes) (bytes-whole at bytes short fits)))

line_read : (ram number at : ℕ) (so_far : Reading) (bytes : List ℕ) → length bytes ≤ 16 → IsBytes bytes → at < 2 ^ 32 → at + length bytes ≤ ram
    → so_far.ended ≡ false
    → after_line ram so_far (record { number = number; characters = codes "S3" ++ encode_upper (whole at bytes) })
    ≡ Ok (record { contents = so_far.contents ++ (at, bytes) ∷ []; ended = false })
line_read ram number at so_far bytes short fits addressed inside running =
    rw (record_read at bytes short fits addressed, running, all_inside ram at bytes inside) refl

-- the lines of a text, the first of which has the number
abbrev text_lines : ℕ → List ℕ → List Line
text_lines number text = numbered_from number (lines_in text)

after_first : (ram number : ℕ) (so_far next : Reading) (line text rest : List ℕ) → text ≡ (line ++ 10 ∷ []) ++ rest → 0 < length line → IsPlain line
    → after_line ram so_far (record { number = number; characters = line }) ≡ Ok next
    → after_lines ram so_far (text_lines number text) ≡ after_lines ram next (text_lines (number + 1) rest)
after_first ram number so_far next line text rest cut some plain read =
    ap (λ (t : List ℕ). after_lines ram so_far (text_lines number t)) cut
    ∙ (ap (after_lines ram so_far) (first_written number line rest some plain)
    ∙ ap (λ (x : Result Reading Fault). x >>= λ s. after_lines ram s (text_lines (number + 1) rest)) read)

IsBytes-take : (n : ℕ) (bytes : List ℕ) → All (λ b. b < 256) bytes → IsBytes (take n bytes)
IsBytes-take n bytes fits = bytes-of_all (take n bytes) (All-take (λ b. b < 256) n bytes fits)

pieces_read : (n ram number at : ℕ) (so_far : Reading) (bytes rest : List ℕ) → so_far.ended ≡ false → n ≡ (length bytes + 15) / 16 → All (λ b. b < 256) bytes
    → (0 < length bytes → at + length bytes ≤ 2 ^ 32) → LiesBelow ram (at, bytes)
    → after_lines ram so_far (text_lines number (data_lines n at bytes ++ rest))
    ≡ after_lines ram (record { contents = so_far.contents ++ pieces n at bytes; ended = false }) (text_lines (number + n) rest)
unfolding pieces
pieces_read zero ram number at so_far bytes rest running count fits addressed inside =
    let none : so_far.contents ++ [] ≡ so_far.contents = append-nil so_far.contents in
    rw (none, ← running) (ap (λ (k : ℕ). after_lines ram so_far (text_lines k rest)) (omega arith))
pieces_read (suc n) ram number at so_far bytes rest running count fits addressed inside =
    let some : 0 < length bytes = omega arith in
    let piece = take 16 bytes in
    let left = drop 16 bytes in
    let next : Reading = record { contents = so_far.contents ++ (at, piece) ∷ []; ended = false } in
    let line = codes "S3" ++ encode_upper (whole at piece) in
    let after = data_lines n (at + 16) left ++ rest in
    let short : length piece ≤ 16 = omega (arith, length-take 16 bytes) in
    let below : at + length bytes ≤ 2 ^ 32 = addressed some in
    let within : at + length bytes ≤ ram = inside some in
    let text : (data_line at piece ++ data_lines n (at + 16) left) ++ rest ≡ (line ++ 10 ∷ []) ++ after =
    append_assoc (data_line at piece) (data_lines n (at + 16) left) rest in
    let read = line_read ram number at so_far piece short (IsBytes-take 16 bytes fits) (omega arith) (omega (arith, length-take 16 bytes)) running in
    let others : n ≡ (length left + 15) / 16 = omega (arith, length-drop 16 bytes) in
    let numbers : number + 1 + n ≡ number + suc n = omega arith in
    let contents = append_assoc so_far.contents ((at, piece) ∷ []) (pieces n (at + 16) left) in
    after_first ram number so_far next line ((data_line at piece ++ data_lines n (at + 16) left) ++ rest) after text (omega arith)
    (line_plain at piece short (IsBytes-take 16 bytes fits)) read
    ∙ (pieces_read n ram (number + 1) (at + 16) next left rest refl others (All-drop (λ b. b < 256) 16 bytes fits)
    (λ more. omega (arith, length-drop 16 bytes)) (λ more. omega (arith, length-drop 16 bytes))
    ∙ (ap (λ (k : ℕ). after_lines ram (record { contents = next.contents ++ pieces n (at + 16) left; ended = false }) (text_lines k rest)) numbers
    ∙ ap (λ (cs : List (ℕ × List ℕ)). after_lines ram (record { contents = cs; ended = false }) (text_lines (number + suc n) rest)) contents))

chunk_read : (ram number : ℕ) (so_far : Reading) (content : ℕ × List ℕ) (rest : List ℕ) → so_far.ended ≡ false → IsContent content → LiesBelow ram content
    → after_lines ram so_far (text_lines number (chunk_lines content ++ rest))
    ≡ after_lines ram (record { contents = so_far.contents ++ pieces_of content; ended = false })
    (text_lines (number + (length content.1 + 15) / 16) rest)
chunk_read ram number so_far (at, bytes) rest running fits inside =
    pieces_read ((length bytes + 15) / 16) ram number at so_far bytes rest running refl fits.0 (λ some. fits.1) inside

-- reading the chunks' records goes on at some line
chunks_read : (ram number : ℕ) (so_far : Reading) (contents : List (ℕ × List ℕ)) (rest : List ℕ) → so_far.ended ≡ false → AllByRecursion IsContent contents
    → AllByRecursion (LiesBelow ram) contents
    → (next : ℕ) × (after_lines ram so_far (text_lines number (flat_map chunk_lines contents ++ rest))
    ≡ after_lines ram (record { contents = so_far.contents ++ flat_map pieces_of contents; ended = false }) (text_lines next rest))
chunks_read ram number so_far [] rest running fits inside =
    let none : so_far.contents ++ [] ≡ so_far.contents = append-nil so_far.contents in
    (number, rw (none, ← running) refl)
chunks_read ram number so_far (content ∷ contents) rest running fits inside =
    let next : Reading = record { contents = so_far.contents ++ pieces_of content; ended = false } in
    let number' = number + (length content.1 + 15) / 16 in
    let left = flat_map chunk_lines contents ++ rest in
    let others = chunks_read ram number' next contents rest refl fits.1 inside.1 in
    let text : flat_map chunk_lines (content ∷ contents) ++ rest ≡ chunk_lines content ++ left =
    ap (λ (t : List ℕ). t ++ rest) (flat_map-cons chunk_lines content contents) ∙ append_assoc (chunk_lines content) (flat_map chunk_lines contents) rest in
    let gathered : (so_far.contents ++ pieces_of content) ++ flat_map pieces_of contents ≡ so_far.contents ++ flat_map pieces_of (content ∷ contents) =
    append_assoc so_far.contents (pieces_of content) (flat_map pieces_of contents)
    ∙ ap (λ (cs : List (ℕ × List ℕ)). so_far.contents ++ cs) (sym (flat_map-cons pieces_of content contents)) in (
      others.0,
      ap (λ (t : List ℕ). after_lines ram so_far (text_lines number t)) text
          ∙ (chunk_read ram number so_far content left running fits.0 inside.0
          ∙ (others.1
          ∙ ap (λ (cs : List (ℕ × List ℕ)). after_lines ram (record { contents = cs; ended = false }) (text_lines others.0 rest)) gathered)),
    )

-- ---- the whole text

header_read : (ram number : ℕ) → after_line ram beginning (record { number = number; characters = codes "S0030000FC" }) ≡ Ok beginning
unfolding hex_on_literals
header_read ram number = refl

end_read : (ram number : ℕ) (so_far : Reading) → so_far.ended ≡ false
    → after_line ram so_far (record { number = number; characters = codes "S70500000000FA" }) ≡ Ok (record { contents = so_far.contents; ended = true })
unfolding hex_on_literals
end_read ram number so_far running = rw running refl

plain_literal : (line : List ℕ) → list_all (λ c. ltb 13 c) line ≡ true → IsPlain line
plain_literal line h k d lt = ltb-true 13 (get_or line k d) (AllPass-from_list_all (λ c. ltb 13 c) line h k d lt)

text_read : (contents : List (ℕ × List ℕ)) (ram : ℕ) → AllByRecursion IsContent contents → AllByRecursion (LiesBelow ram) contents
    → records_of (text_of contents) ram ≡ Ok (flat_map pieces_of contents)
text_read contents ram fits inside =
    let middle = flat_map chunk_lines contents in
    let header = codes "S0030000FC" in
    let last = codes "S70500000000FA" in
    let text : (header_line ++ middle) ++ end_line ≡ (header ++ 10 ∷ []) ++ (middle ++ end_line) = append_assoc header_line middle end_line in
    let body = chunks_read ram 2 beginning contents end_line refl fits inside in
    let all : Reading = record { contents = flat_map pieces_of contents; ended = false } in
    let ended : Reading = record { contents = flat_map pieces_of contents; ended = true } in
    let end : end_line ≡ (last ++ 10 ∷ []) ++ [] = sym (append-nil end_line) in
    let done : after_lines ram beginning (text_lines 1 ((header_line ++ middle) ++ end_line))
    ≡ Ok (record { contents = flat_map pieces_of contents; ended = true }) =
    after_first ram 1 beginning beginning header ((header_line ++ middle) ++ end_line) (middle ++ end_line) text
    (omega arith) (plain_literal header refl) (header_read ram 1)
    ∙ (body.1
    ∙ (after_first ram body.0 all ended last end_line [] end (omega arith) (plain_literal last refl) (end_read ram body.0 all refl)
    ∙ ap (λ (ls : List (List ℕ)). after_lines ram ended (numbered_from (body.0 + 1) ls)) none_written)) in
    ap (λ (x : Result Reading Fault). x >>= at_end) done

same_byte : (contents : List (ℕ × List ℕ)) (address : ℕ) → byte_at (flat_map pieces_of contents) address ≡ byte_at contents address
same_byte [] address = refl
same_byte (content ∷ contents) address =
    let covered : length content.1 ≤ 16 * ((length content.1 + 15) / 16) = omega arith in
    ap (λ (cs : List (ℕ × List ℕ)). byte_at cs address) (flat_map-cons pieces_of content contents)
    ∙ (byte_at-append (pieces_of content) (flat_map pieces_of contents) address
    ∙ (ap (λ (o : Option ℕ). option_or o (byte_at (pieces_of content) address)) (same_byte contents address)
    ∙ ap (λ (o : Option ℕ). option_or (byte_at contents address) o) (byte_at-pieces ((length content.1 + 15) / 16) content.0 content.1 address covered)))

pub reads_back : (contents : List (ℕ × List ℕ)) (ram : ℕ) → All IsContent contents → All (LiesBelow ram) contents
    → SameBytes contents (records_of (text_of contents) ram)
reads_back contents ram fits inside =
    subst (SameBytes contents) (sym (text_read contents ram (recursion_from_All IsContent contents fits) (recursion_from_All (LiesBelow ram) contents inside)))
    (λ address. same_byte contents address)
