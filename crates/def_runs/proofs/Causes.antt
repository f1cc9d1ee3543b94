-- The frame of an instruction that is not carried out, and that of a trap, tells the cause.
use Rattle.std.proofs.Common.{◌≡◌, ◌∙◌, ℕ, ◌+◌, ◌-◌, ◌%◌, ◌^◌, ◌<◌, ◌≤◌, refl, ap, true, false, inl, inr, arith}
use Rattle.std.proofs.lemmas.Bool.Decides.{nat_tests}
use Rattle.def_processor.specs.Entry.{has_address, frame_of}
use Rattle.def_processor.specs.Raise.{cause_at}
use Rattle.def_runs.specs.Frames.{is_trap_instruction, address_by, cause_in}
use Rattle.def_runs.specs.Telling.{RefusalsTell, TrapsTell}

-- a frame with the address, and one without
stacked : (sr vector pc address : ℕ) → has_address vector ≡ true
    → cause_in (frame_of sr (cause_at vector pc address)) vector ≡ cause_at vector pc address
stacked sr vector pc address h = rw h refl

unstacked : (sr vector pc address : ℕ) → has_address vector ≡ false → address_by vector pc ≡ address
    → cause_in (frame_of sr (cause_at vector pc address)) vector ≡ cause_at vector pc address
unstacked sr vector pc address h e = rw h (ap (cause_at vector pc) e)

-- ---- instructions that are not carried out

even_pc : (vector at : ℕ) → is_trap_instruction vector ≡ false → at % 2 ≡ 0 → address_by vector at ≡ at - at % 2
even_pc vector at h even = rw h (omega arith)

not_carried : (sr vector at n : ℕ) → vector ≡ n → has_address n ≡ false → is_trap_instruction n ≡ false → at % 2 ≡ 0
    → cause_in (frame_of sr (cause_at vector at (at - at % 2))) vector ≡ cause_at vector at (at - at % 2)
not_carried sr vector at n e a t even =
    unstacked sr vector at (at - at % 2) (ap has_address e ∙ a) (even_pc vector at (ap is_trap_instruction e ∙ t) even)

pub refusals_tell : RefusalsTell
refusals_tell sr vector at (inl e) = stacked sr vector at (at - at % 2) (ap has_address e)
refusals_tell sr vector at (inr (inl e, even)) = not_carried sr vector at 4 e refl refl even
refusals_tell sr vector at (inr (inr (inl e), even)) = not_carried sr vector at 8 e refl refl even
refusals_tell sr vector at (inr (inr (inr (inl e)), even)) = not_carried sr vector at 10 e refl refl even
refusals_tell sr vector at (inr (inr (inr (inr e)), even)) = not_carried sr vector at 11 e refl refl even

-- ---- traps

no_address : (vector : ℕ) → 32 ≤ vector → has_address vector ≡ false
no_address vector h = grind (arith, nat_tests)

traps : (vector : ℕ) → 32 ≤ vector → vector < 48 → is_trap_instruction vector ≡ true
traps vector h k = grind (arith, nat_tests)

two_before : (at next : ℕ) → at < 2 ^ 32 → next ≡ (at + 2) % 2 ^ 32 → (next + (2 ^ 32 - 2)) % 2 ^ 32 ≡ at
two_before at next h e = omega arith

one_word : (vector at next : ℕ) → is_trap_instruction vector ≡ true → at < 2 ^ 32 → next ≡ (at + 2) % 2 ^ 32 → address_by vector next ≡ at
one_word vector at next t h e = rw t (two_before at next h e)

pub traps_tell : TrapsTell
traps_tell sr vector at next (inl e) = stacked sr vector next at (ap has_address e)
traps_tell sr vector at next (inr (inl e)) = stacked sr vector next at (ap has_address e)
traps_tell sr vector at next (inr (inr (inl e))) = stacked sr vector next at (ap has_address e)
traps_tell sr vector at next (inr (inr (inr h))) =
    unstacked sr vector next at (no_address vector h.0) (one_word vector at next (traps vector h.0 h.1) h.2 h.3)
