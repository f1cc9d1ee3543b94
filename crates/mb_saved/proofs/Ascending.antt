-- Lines that ascend so far ascend one further.
use Rattle.std.proofs.Common.{◌≡◌, ℕ, ◌+◌, ◌-◌, ◌<◌, ◌≤◌, List, length, subst, sym, inl, inr, arith}
use Rattle.std.specs.Prelude.{slice_index_or}
use Rattle.std.proofs.lemmas.Bool.{cases_lt}
use Rattle.std.proofs.lemmas.List.{get_or_default}
use Rattle.mb_saved.specs.declared.line.RamLine.{RamLine}

-- of the first so many each stands below the later ones
abbrev pub AscendTo : List RamLine → ℕ → Type 0
AscendTo lines place =
    (i j : ℕ) (d : RamLine) → i < j → j < place → (slice_index_or lines i d).at < (slice_index_or lines j d).at

pub one_further : (lines : List RamLine) (place : ℕ) (e : RamLine) → 1 ≤ place → place < length lines
    → (slice_index_or lines (place - 1) e).at < (slice_index_or lines place e).at → AscendTo lines place → AscendTo lines (place + 1)
one_further lines place e some inside step before i j d below within =
    let first : slice_index_or lines (place - 1) d ≡ slice_index_or lines (place - 1) e =
    get_or_default lines (place - 1) d e (omega (arith, some, inside)) in
    let last : slice_index_or lines place d ≡ slice_index_or lines place e = get_or_default lines place d e inside in
    let rises : (slice_index_or lines (place - 1) d).at < (slice_index_or lines place d).at =
    subst (λ (line : RamLine). line.at < (slice_index_or lines place d).at) (sym first)
    (subst (λ (line : RamLine). (slice_index_or lines (place - 1) e).at < line.at) (sym last) step) in
    elim (cases_lt j place) [
      | inl less ↦ before i j d below less
      | inr past ↦
          let here : j ≡ place = omega (arith, past, within) in
          rw here (elim (cases_lt i (place - 1)) [
            | inl less ↦ let lower = before i (place - 1) d less (omega (arith, some)) in omega (arith, lower, rises)
            | inr near ↦ let so : i ≡ place - 1 = omega (arith, near, below, here) in rw so rises
          ])
    ]
