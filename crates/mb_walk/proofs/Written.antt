-- Each byte of memory once bytes are written.
use Rattle.std.proofs.Common.{◌≡◌, ℕ, ◌+◌, ◌-◌, ◌≤◌, ◌<◌, List, length, take, drop, get_or, ap, ◌∙◌, arith, inl, inr, ◌++◌}
use Rattle.std.proofs.Common.{length-append, length-take}
use Rattle.std.proofs.lemmas.Bool.{cases_lt}
use Rattle.std.proofs.lemmas.List.{get_or-take, get_or-drop, get_or_append_left}
use Rattle.std.proofs.Math.Seq.{get_or-append_right}
use Rattle.mb_walk.specs.Memory.{overwritten}

front : (ram bytes : List ℕ) (at : ℕ) → at + length bytes ≤ length ram → length (take at ram) ≡ at
front ram bytes at h = length-take at ram ∙ omega arith

both : (ram bytes : List ℕ) (at : ℕ) → at + length bytes ≤ length ram → length (take at ram ++ bytes) ≡ at + length bytes
both ram bytes at h = length-append (take at ram) bytes ∙ ap (λ (n : ℕ). n + length bytes) (front ram bytes at h)

-- a byte that is written
pub over_in : (ram bytes : List ℕ) (at k : ℕ) → at + length bytes ≤ length ram → at ≤ k → k < at + length bytes
    → get_or (overwritten ram at bytes) k 0 ≡ get_or bytes (k - at) 0
over_in ram bytes at k h low high =
    get_or_append_left (take at ram ++ bytes) (drop (at + length bytes) ram) 0 k (omega (arith, both ram bytes at h))
    ∙ get_or-append_right (take at ram) bytes k 0 (omega (arith, front ram bytes at h))
    ∙ ap (λ (n : ℕ). get_or bytes n 0) (let e : k - length (take at ram) ≡ k - at = omega (arith, front ram bytes at h) in e)

-- a byte below or above those that are written
pub over_out : (ram bytes : List ℕ) (at k : ℕ) → at + length bytes ≤ length ram → (at ≤ k → at + length bytes ≤ k)
    → get_or (overwritten ram at bytes) k 0 ≡ get_or ram k 0
over_out ram bytes at k h out = elim (cases_lt k at) [
  | inl l ↦
      get_or_append_left (take at ram ++ bytes) (drop (at + length bytes) ram) 0 k (omega (arith, both ram bytes at h))
      ∙ get_or_append_left (take at ram) bytes 0 k (omega (arith, front ram bytes at h)) ∙ get_or-take at ram k 0 l
  | inr g ↦
      let past = out g in
      get_or-append_right (take at ram ++ bytes) (drop (at + length bytes) ram) k 0 (omega (arith, both ram bytes at h))
      ∙ get_or-drop (at + length bytes) ram (k - length (take at ram ++ bytes)) 0
      ∙ ap (λ (n : ℕ). get_or ram n 0) (let e : at + length bytes + (k - length (take at ram ++ bytes)) ≡ k = omega (arith, both ram bytes at h) in e)
]
