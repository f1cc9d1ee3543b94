-- Branches, loops, calls and frames.
use Rattle.std.proofs.Common.{◌≡◌, ℕ, ◌+◌, ◌%◌, ◌^◌, Bool, false, true, Ok, Option, Some, None, IfSome, ap, sym, refl}
use Rattle.mb_port.specs.Routine.{Bus, run}
use Rattle.mb_port.specs.declared.types.Space.{Space}
use Rattle.mb_instr.specs.declared.kinds.Branch.{Branch}
use Rattle.mb_instr.specs.declared.kinds.Condition.{Condition}
use Rattle.mb_instr.specs.declared.kinds.Condition.TheVariants as condition
use Rattle.mb_instr.specs.declared.size.Size.TheVariants.{Word}
use Rattle.mb_instr.specs.declared.operand.Ea.TheVariants.{Disp, Index, AbsL, PcDisp}
use Rattle.mb_instr.specs.declared.operand.Ext.TheVariants.{Brief}
use Rattle.mb_instr.specs.declared.instruction.Move.TheVariants as move
use Rattle.mb_instr.specs.Registers.{address_register, with_address_register}
use Rattle.mb_instr.specs.Sizes.{sign_extended}
use Rattle.mb_ea.specs.Addresses.{sum}
use Rattle.mb_ea.specs.Reading.{read_operand_of}
use Rattle.mb_ea.specs.Resolve.{resolve_of}
use Rattle.mb_instr.specs.declared.instruction.Instr.TheVariants as instr
use Rattle.mb_instr.specs.declared.instruction.Flow.TheVariants as flow
use Rattle.mb_instr.specs.declared.registers.Plain.{Plain}
use Rattle.def_instructions.specs.Attempt.{past}
use Rattle.def_instructions.specs.Ends.{Rowed, went}
use Rattle.def_instructions.specs.Flow.{go_if_met_of, call_of, dbcc_of, target_of, is_call}
use Rattle.def_instructions.specs.Operands.{stack_raised}
use Rattle.def_instructions.specs.Stack.{link_of}
use Rattle.mb_short.specs.Operands.{indexed_at}
use Rattle.mb_short.specs.Taken.{Goes}
use Rattle.mb_short.proofs.Moves.{goes}

pub branch_goes : {S : Type 0} (bus : Bus S) (c : Condition) (d : Branch) (n : ℕ) (space : Space) (p q : Plain) (met : Bool) (s : S)
    → is_call c ≡ false → went met q ≡ go_if_met_of c (target_of ((p.pc + 2) % 2 ^ 32) d) (past n p)
    → Goes bus (instr.Flow (flow.Bcc c d)) n space p s met q s
branch_goes {S} bus c d n space p q met s e h =
    goes bus (instr.Flow (flow.Bcc c d)) p.pc space (past n p) q met s s (rw e (ap (λ (r : Rowed). (let x : Rowed × S = (r, s) in x)) (sym h)))

pub loop_goes : {S : Type 0} (bus : Bus S) (c : Condition) (n d : ℕ) (space : Space) (p q : Plain) (met : Bool) (s : S)
    → went met q ≡ dbcc_of c n d ((p.pc + 2) % 2 ^ 32) (past 2 p) → Goes bus (instr.Flow (flow.Dbcc c n d)) 2 space p s met q s
loop_goes {S} bus c n d space p q met s h =
    goes bus (instr.Flow (flow.Dbcc c n d)) p.pc space (past 2 p) q met s s (ap (λ (r : Rowed). (let x : Rowed × S = (r, s) in x)) (sym h))

pub call_goes : {S : Type 0} (bus : Bus S) (d : Branch) (n : ℕ) (space : Space) (p q : Plain) (s t : S) (r : Option Bool)
    → IfSome r (λ met. run bus (call_of (target_of ((p.pc + 2) % 2 ^ 32) d) space (past n p)) s ≡ (went met q, t))
    → IfSome r (λ met. Goes bus (instr.Flow (flow.Bcc condition.False d)) n space p s met q t)
call_goes bus d n space p q s t None h = h
call_goes bus d n space p q s t (Some met) h = goes bus (instr.Flow (flow.Bcc condition.False d)) p.pc space (past n p) q met s t h

pub return_goes : {S : Type 0} (bus : Bus S) (target : ℕ) (space : Space) (p : Plain) (s : S)
    → run bus (read_operand_of space (address_register p 7) 4) s ≡ (Ok target, s)
    → Goes bus (instr.Flow flow.Rts) 1 space p s true (record (stack_raised p) { pc = target }) s
return_goes bus target space p s read =
    goes bus (instr.Flow flow.Rts) p.pc space (past 1 p) (record (stack_raised p) { pc = target }) true s s (rw (run, read) refl)

pub link_goes : {S : Type 0} (bus : Bus S) (n d : ℕ) (space : Space) (p q : Plain) (s t : S) (r : Option Bool)
    → IfSome r (λ met. run bus (link_of n (sign_extended Word d) space (past 2 p)) s ≡ (went met q, t))
    → IfSome r (λ met. Goes bus (instr.Move (move.LinkW n d)) 2 space p s met q t)
link_goes bus n d space p q s t None h = h
link_goes bus n d space p q s t (Some met) h = goes bus (instr.Move (move.LinkW n d)) p.pc space (past 2 p) q met s t h

pub unlink_goes : {S : Type 0} (bus : Bus S) (n value : ℕ) (space : Space) (p : Plain) (s : S)
    → run bus (read_operand_of space (address_register p n) 4) s ≡ (Ok value, s)
    → Goes bus (instr.Move (move.Unlk n)) 1 space p s false
    (with_address_register (with_address_register (past 1 p) 7 (sum (address_register p n) 4)) n value) s
unlink_goes bus n value space p s read =
    goes bus (instr.Move (move.Unlk n)) p.pc space (past 1 p)
    (with_address_register (with_address_register (past 1 p) 7 (sum (address_register p n) 4)) n value) false s s (rw (run, read) refl)

pub address_goes : {S : Type 0} (bus : Bus S) (n m d : ℕ) (space : Space) (p : Plain) (s : S)
    → Goes bus (instr.Move (move.Lea n (Disp m d))) 2 space p s false
    (with_address_register (past 2 p) n (sum (address_register p m) (sign_extended Word d))) s
unfolding resolve_of
address_goes bus n m d space p s =
    goes bus (instr.Move (move.Lea n (Disp m d))) p.pc space (past 2 p)
    (with_address_register (past 2 p) n (sum (address_register p m) (sign_extended Word d))) false s s refl

pub indexed_goes : {S : Type 0} (bus : Bus S) (n m w : ℕ) (space : Space) (p : Plain) (s : S)
    → Goes bus (instr.Move (move.Lea n (Index m (Brief w)))) 2 space p s false (with_address_register (past 2 p) n (indexed_at m w p)) s
unfolding resolve_of
indexed_goes bus n m w space p s =
    goes bus (instr.Move (move.Lea n (Index m (Brief w)))) p.pc space (past 2 p) (with_address_register (past 2 p) n (indexed_at m w p)) false s s refl

pub absolute_goes : {S : Type 0} (bus : Bus S) (n at : ℕ) (space : Space) (p : Plain) (s : S)
    → Goes bus (instr.Move (move.Lea n (AbsL at))) 3 space p s false (with_address_register (past 3 p) n at) s
unfolding resolve_of
absolute_goes bus n at space p s =
    goes bus (instr.Move (move.Lea n (AbsL at))) p.pc space (past 3 p) (with_address_register (past 3 p) n at) false s s refl

pub counter_goes : {S : Type 0} (bus : Bus S) (n d : ℕ) (space : Space) (p : Plain) (s : S)
    → Goes bus (instr.Move (move.Lea n (PcDisp d))) 2 space p s false
    (with_address_register (past 2 p) n (sum ((p.pc + 2) % 2 ^ 32) (sign_extended Word d))) s
unfolding resolve_of
counter_goes bus n d space p s =
    goes bus (instr.Move (move.Lea n (PcDisp d))) p.pc space (past 2 p)
    (with_address_register (past 2 p) n (sum ((p.pc + 2) % 2 ^ 32) (sign_extended Word d))) false s s refl

pub ruleset flows = (branch_goes, loop_goes, call_goes, return_goes, link_goes, unlink_goes, address_goes, indexed_goes, absolute_goes, counter_goes)
