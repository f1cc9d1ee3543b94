-- Lines that were counted, and those that are left.
use Rattle.std.proofs.Common.{◌≡◌, ℕ, suc, ◌+◌, ◌<◌, ◌≤◌, eqb, Bool, true, false, List, ◌∷◌, length, drop, get_or, refl, sym, ap, ◌∙◌, arith, add-one, drop-cons}
use Rattle.std.proofs.lemmas.List.{drop_all}
use Rattle.mb_spelling.specs.Places.{line_count, lines_behind}

here_then : (text : List ℕ) (i c : ℕ) → i < length text → c ≡ get_or text i 0 → drop i text ≡ c ∷ drop (i + 1) text
here_then text i c inside same = rw (add-one, drop-cons text i 0) (ap (λ (d : ℕ). d ∷ drop (suc i) text) (sym same))

ended_there : (begun : Bool) (c : ℕ) (text : List ℕ) → eqb c 10 ≡ true → lines_behind begun (c ∷ text) ≡ suc (lines_behind false text)
ended_there begun c text e = rw e refl

begun_there : (begun : Bool) (c : ℕ) (text : List ℕ) → eqb c 10 ≡ false → lines_behind begun (c ∷ text) ≡ lines_behind true text
begun_there begun c text e = rw e refl

-- lines that are ended before a place, and whether one is begun there
pub record Counted (text : List ℕ) (i lines : ℕ) (begun : Bool) : Type 0 where
  pub same : lines + lines_behind begun (drop i text) ≡ line_count text
  pub few : lines ≤ i

pub counted_end : (text : List ℕ) (i c lines : ℕ) (begun : Bool) → Counted text i lines begun → i < length text → c ≡ get_or text i 0 → eqb c 10 ≡ true
    → Counted text (i + 1) (lines + 1) false
counted_end text i c lines begun m inside at e =
    let here : lines_behind begun (drop i text) ≡ suc (lines_behind false (drop (i + 1) text)) =
    ap (lines_behind begun) (here_then text i c inside at) ∙ ended_there begun c (drop (i + 1) text) e in
    record { same = omega (arith, here, m.same); few = omega (arith, m.few) }

pub counted_begun : (text : List ℕ) (i c lines : ℕ) (begun : Bool) → Counted text i lines begun → i < length text → c ≡ get_or text i 0 → eqb c 10 ≡ false
    → Counted text (i + 1) lines true
counted_begun text i c lines begun m inside at e =
    let here : lines_behind begun (drop i text) ≡ lines_behind true (drop (i + 1) text) =
    ap (lines_behind begun) (here_then text i c inside at) ∙ begun_there begun c (drop (i + 1) text) e in
    record { same = omega (arith, here, m.same); few = omega (arith, m.few) }

pub counted_begun_last : (text : List ℕ) (i lines : ℕ) → Counted text i lines true → length text ≤ i → lines + 1 ≡ line_count text
counted_begun_last text i lines m all =
    let last : lines_behind true (drop i text) ≡ 1 = ap (lines_behind true) (drop_all i text all) in omega (arith, last, m.same)

pub counted_last : (text : List ℕ) (i lines : ℕ) → Counted text i lines false → length text ≤ i → lines ≡ line_count text
counted_last text i lines m all =
    let last : lines_behind false (drop i text) ≡ 0 = ap (lines_behind false) (drop_all i text all) in omega (arith, last, m.same)
