-- What a write of memory leaves.
use Rattle.std.proofs.Common.{◌≡◌, ◌∙◌, ℕ, ◌+◌, ◌≤◌, List, [], ◌∷◌, length, refl, ap, arith, add-zero, length-append, length-take}
use Rattle.std.proofs.Common.{length-drop}
use Rattle.std.proofs.lemmas.List.{append-nil, take-append-drop}
use Rattle.byteorder.specs.Endian.{big_bytes}
use Rattle.byteorder.specs.Numbers.{length-bytes_high_first}
use Rattle.mb_walk.specs.Memory.{Contents, contents_from, overwritten, with_number}

pub length-overwritten : (ram : List ℕ) (at : ℕ) (bytes : List ℕ) → at + length bytes ≤ length ram → length (overwritten ram at bytes) ≡ length ram
length-overwritten ram at bytes h = simp (length-append, length-take, length-drop) (omega arith)

pub length-with_number : (ram : List ℕ) (at n value : ℕ) → at + n ≤ length ram → length (with_number ram at n value) ≡ length ram
length-with_number ram at n value h =
    let count = length-bytes_high_first n value in
    length-overwritten ram at (big_bytes n value) (omega arith)

-- no bytes change nothing
pub overwritten-nothing : (ram : List ℕ) (at : ℕ) (bytes : List ℕ) → length bytes ≡ 0 → overwritten ram at bytes ≡ ram
overwritten-nothing ram at [] h = simp (append-nil, add-zero) (take-append-drop at ram)
overwritten-nothing ram at (byte ∷ bytes) h = absurd (omega arith)

-- addresses that are counted from 0 are themselves
pub contents-from_zero : (contents : Contents) → contents_from 0 contents ≡ contents
contents-from_zero [] = refl
contents-from_zero ((at, bytes) ∷ contents) =
    ap (λ (n : ℕ). (n, bytes) ∷ contents_from 0 contents) (let e : 0 + at ≡ at = omega arith in e)
    ∙ ap (λ (rest : Contents). (at, bytes) ∷ rest) (contents-from_zero contents)

pub ruleset lengths = (length-overwritten, length-with_number)

pub ruleset writes = (length-overwritten, overwritten-nothing)
