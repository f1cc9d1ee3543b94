-- A row that is carried out is what a short form says.
use Rattle.std.proofs.Common.{◌≡◌, ℕ, ◌<◌, ◌^◌, false, Option, Some, None, IfSome, Bool, sym, subst, inl, inr}
use Rattle.mb_port.specs.Routine.{Bus, run}
use Rattle.mb_port.specs.declared.types.Space.{Space}
use Rattle.mb_instr.specs.declared.instruction.Instr.{Instr}
use Rattle.mb_instr.specs.declared.registers.Plain.{Plain}
use Rattle.def_instructions.specs.Attempt.{past}
use Rattle.def_instructions.specs.Ends.{carried}
use Rattle.def_instructions.specs.Rows.{row_of}
use Rattle.mb_table.specs.declared.short.Short.{Short}
use Rattle.mb_table.specs.Short.{meaning, meaning_with, meaning_with_long}
use Rattle.mb_short.specs.Taken.{Comes, LongComes, Goes, GoesBy, IsDone}
use Rattle.mb_short.proofs.Moves.{goes}

-- a row that is carried out is its instruction
pub one_goes : {S : Type 0} (bus : Bus S) (i : Instr) (space : Space) (p q : Plain) (s t : S)
    → run bus (row_of i p.pc space (past 1 p)) s ≡ (carried q, t) → Goes bus i 1 space p s false q t
one_goes bus i space p q s t h = goes bus i p.pc space (past 1 p) q false s t h

pub two_go : {S : Type 0} (bus : Bus S) (i : Instr) (space : Space) (p q : Plain) (s t : S)
    → run bus (row_of i p.pc space (past 2 p)) s ≡ (carried q, t) → Goes bus i 2 space p s false q t
two_go bus i space p q s t h = goes bus i p.pc space (past 2 p) q false s t h

pub three_go : {S : Type 0} (bus : Bus S) (i : Instr) (space : Space) (p q : Plain) (s t : S)
    → run bus (row_of i p.pc space (past 3 p)) s ≡ (carried q, t) → Goes bus i 3 space p s false q t
three_go bus i space p q s t h = goes bus i p.pc space (past 3 p) q false s t h

-- what a form says, where it is done
pub alone_if : {S : Type 0} (bus : Bus S) (form : Short) (i : Instr) (space : Space) (p q : Plain) (s t : S) (r : Option Bool)
    → meaning form ≡ Some i → IfSome r (λ flow. Goes bus i 1 space p s flow q t) → IfSome r (λ flow. IsDone bus form space p s flow q t)
alone_if bus form i space p q s t None e h = h
alone_if bus form i space p q s t (Some flow) e h = inl (subst (λ (m : Option Instr). GoesBy bus m 1 space p s flow q t) (sym e) h)

pub with_if : {S : Type 0} (bus : Bus S) (form : Short) (i : Instr) (word : ℕ) (space : Space) (p q : Plain) (s t : S) (r : Option Bool)
    → word < 2 ^ 16 → Comes bus space p s word → meaning_with word form ≡ Some i
    → IfSome r (λ flow. Goes bus i 2 space p s flow q t) → IfSome r (λ flow. IsDone bus form space p s flow q t)
with_if bus form i word space p q s t None range comes e h = h
with_if bus form i word space p q s t (Some flow) range comes e h =
    inr (inl (word, range, comes, subst (λ (m : Option Instr). GoesBy bus m 2 space p s flow q t) (sym e) h))

pub with_long_if : {S : Type 0} (bus : Bus S) (form : Short) (i : Instr) (value : ℕ) (space : Space) (p q : Plain) (s t : S) (r : Option Bool)
    → value < 2 ^ 32 → LongComes bus space p s value → meaning_with_long value form ≡ Some i
    → IfSome r (λ flow. Goes bus i 3 space p s flow q t) → IfSome r (λ flow. IsDone bus form space p s flow q t)
with_long_if bus form i value space p q s t None range comes e h = h
with_long_if bus form i value space p q s t (Some flow) range comes e h =
    inr (inr (value, range, comes, subst (λ (m : Option Instr). GoesBy bus m 3 space p s flow q t) (sym e) h))

-- the same where a form of one word answers so
pub by_if : {S : Type 0} (bus : Bus S) (form : Short) (space : Space) (p q : Plain) (s t : S) (r : Option Bool)
    → IfSome r (λ flow. GoesBy bus (meaning form) 1 space p s flow q t) → IfSome r (λ flow. IsDone bus form space p s flow q t)
by_if bus form space p q s t None h = h
by_if bus form space p q s t (Some flow) h = inl h

pub ruleset goings = (one_goes, two_go, three_go)

pub ruleset endings = (alone_if, with_if, with_long_if, by_if)
