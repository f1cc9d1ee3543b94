-- A line that is cut at its first space.
use Rattle.std.proofs.Common.{◌≡◌, ℕ, ◌+◌, ◌-◌, List, length, take, drop, Some, None, ap, arith}
use Rattle.std.specs.Prelude.{option_map, position}
use Rattle.std.proofs.lemmas.List.{take_all, length-drop}
use Rattle.mb_script.specs.Words.{cut_at_space, is_space}

parts : List ℕ → ℕ → List ℕ × List ℕ
parts line end = (take end line, drop (end + 1) line)

pub cut_none : (line : List ℕ) → None ≡ position is_space line → None ≡ cut_at_space line
unfolding parts
cut_none line e = ap (option_map (parts line)) e

pub cut_found : (line : List ℕ) (end : ℕ) → Some end ≡ position is_space line
    → Some (take end line, take (length line - (end + 1)) (drop (end + 1) line)) ≡ cut_at_space line
unfolding parts
cut_found line end e =
    let whole : take (length line - (end + 1)) (drop (end + 1) line) ≡ drop (end + 1) line = take_all _ _ (omega (arith, length-drop (end + 1) line)) in
    rw whole (ap (option_map (parts line)) e)
