-- Slices whose places are cut off at the end.
use Rattle.std.proofs.Common.{◌≡◌, ℕ, zero, suc, ◌-◌, ◌≤◌, ◌<◌, ◌⊎◌, inl, inr, List, [], length, take, drop, min, refl, arith, sym, ◌∙◌, ap, length-drop}
use Rattle.std.specs.Prelude.{slice_range}
use Rattle.std.proofs.lemmas.List.{take_min}
use Rattle.std.proofs.lemmas.Bool.{cases_lt}

none_taken : (line : List ℕ) (place len : ℕ) → len ≡ 0 → take len (drop place line) ≡ []
none_taken line place zero h = refl
none_taken line place (suc len) h = absurd (omega arith)

clamped_by : (line : List ℕ) (start end stop : ℕ) → stop ≡ min (length line) end → (stop < start) ⊎ (start ≤ stop)
    → take (stop - min stop start) (drop (min stop start) line) ≡ take (end - start) (drop start line)
clamped_by line start end stop is (inl above) =
    let left = none_taken line (min stop start) (stop - min stop start) (omega arith) in
    let long : length (drop start line) ≡ length line - start = length-drop start line in
    let right : take (min (end - start) (length (drop start line))) (drop start line) ≡ [] =
    none_taken line start (min (end - start) (length (drop start line))) (omega (arith, long)) in
    left ∙ sym right ∙ take_min (end - start) (drop start line)
clamped_by line start end stop is (inr below) =
    let least : min stop start ≡ start = omega arith in
    let long : length (drop start line) ≡ length line - start = length-drop start line in
    let short : stop - start ≡ min (end - start) (length (drop start line)) = omega (arith, long) in
    rw least (ap (λ (n : ℕ). take n (drop start line)) short ∙ take_min (end - start) (drop start line))

pub clamped : (line : List ℕ) (start end : ℕ)
    → slice_range line (min (min (length line) end) start) (min (length line) end) ≡ slice_range line start end
clamped line start end = clamped_by line start end (min (length line) end) refl (cases_lt (min (length line) end) start)
