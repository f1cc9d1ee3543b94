-- Instructions in two spaces.
use Rattle.std.specs.Prelude.{◌≡◌, ◌⊎◌, ℕ, ◌+◌, ◌<◌, ◌≤◌, true}
use Rattle.law_routines.specs.Tree.{tree_of}
use Rattle.law_routines.specs.Twin.{TwinTrees, Results}
use Rattle.law_routines.specs.Between.{Setting, Equal, SameFault, between}
use Rattle.mb_instr.specs.declared.instruction.Instr.{Instr}
use Rattle.mb_instr.specs.declared.instruction.Instr.TheVariants as instr
use Rattle.mb_instr.specs.declared.registers.Plain.{Plain}
use Rattle.mb_instr.specs.declared.vectors.TheConstants.{ODD_COUNTER, ILLEGAL, ZERO_DIVIDE, OUT_OF_BOUNDS}
use Rattle.mb_instr.specs.declared.vectors.TheConstants.{CONDITION_MET, PRIVILEGED, LINE_A, LINE_F, FIRST_TRAP}
use Rattle.mb_instr.specs.Codes.{IsInstr}
use Rattle.mb_ea.specs.declared.reading.ReadFault.{ReadFault}
use Rattle.mb_writes.specs.declared.ends.WriteFault.{WriteFault}
use Rattle.mb_writes.specs.declared.ends.MovemFault.{MovemFault}
use Rattle.mb_writes.specs.declared.ends.Ended.{Ended}
use Rattle.mb_writes.specs.declared.ends.Ended.TheVariants as ended
use Rattle.def_instructions.specs.Ends.{OtherEnd, Performed}
use Rattle.def_instructions.specs.Rows.{perform_of}
use Rattle.def_instructions.specs.Attempt.{attempt_of}

-- the same refused read, with the fault in the second's space
pub record SameRead (x : Setting) (f g : ReadFault) : Type 0 where
  pub fault : SameFault x f.fault g.fault
  pub first : f.first ≡ g.first

-- the same refused write, with the fault in the second's space
pub record SameWrite (x : Setting) (f g : WriteFault) : Type 0 where
  pub fault : SameFault x f.fault g.fault
  pub first : f.first ≡ g.first
  pub rest : f.rest ≡ g.rest

-- the same refused transfer, with the fault in the second's space
pub record SameTransfer (x : Setting) (f g : MovemFault) : Type 0 where
  pub fault : SameFault x f.fault g.fault
  pub first : f.first ≡ g.first
  pub done : f.done ≡ g.done

-- the vectors of traps: a division by 0, a value out of bounds, a condition that is met, and the sixteen of TRAP
abbrev pub IsTrap : ℕ → Type 0
IsTrap vector =
    (vector ≡ ZERO_DIVIDE) ⊎ (vector ≡ OUT_OF_BOUNDS) ⊎ (vector ≡ CONDITION_MET)
    ⊎ ((FIRST_TRAP ≤ vector) × (vector < FIRST_TRAP + 16))

-- the vectors of what is not carried out: at an odd PC, no instruction, a privileged one, and words of lines A and F
abbrev pub IsRefusal : ℕ → Type 0
IsRefusal vector =
    (vector ≡ ODD_COUNTER) ⊎ (vector ≡ ILLEGAL) ⊎ (vector ≡ PRIVILEGED) ⊎ (vector ≡ LINE_A) ⊎ (vector ≡ LINE_F)

-- Ends that say the same: a fault in one would be the same fault in the other's space. A trap has the vector of one,
-- and so has what is not carried out.
abbrev pub SameEnd : Setting → Ended → Ended → Type 0
SameEnd x (ended.Done flow) (ended.Done other) = flow ≡ other
SameEnd x (ended.Trap vector) (ended.Trap other) = (vector ≡ other) × IsTrap vector
SameEnd x (ended.Refused vector) (ended.Refused other) = (x.refuses ≡ true) × (vector ≡ other) × IsRefusal vector
SameEnd x (ended.ReadFault f) (ended.ReadFault g) = SameRead x f g
SameEnd x (ended.WriteFault f) (ended.WriteFault g) = SameWrite x f g
SameEnd x (ended.LineFault f line) (ended.LineFault g other) = SameFault x f g × (line ≡ other)
SameEnd x (ended.Movem f) (ended.Movem g) = SameTransfer x f g
SameEnd x _ _ = ⊥

-- both ended so, with the same registers
abbrev pub SameStop : Setting → OtherEnd → OtherEnd → Type 0
SameStop x a b = SameEnd x a.ended b.ended × (a.plain ≡ b.plain)

-- both were carried out alike, or ended alike
abbrev pub SamePerformed : Setting → Performed → Performed → Type 0
SamePerformed x = Results Equal (SameStop x)

-- A privileged instruction is refused, and no other.
abbrev pub MayRefuse : Setting → Instr → Type 0
MayRefuse x (instr.System i) = x.refuses ≡ true
MayRefuse x _ = Unit {0}

-- each instruction that the table has
abbrev pub RowsAreTwins : Type 0
RowsAreTwins = (x : Setting) (i : Instr) (at : ℕ) (p : Plain) → IsInstr i → MayRefuse x i
    → TwinTrees (between x) (SamePerformed x) (tree_of (perform_of i at x.here p)) (tree_of (perform_of i at x.there p))

-- a whole attempt, with the fetching of its words
abbrev pub AttemptsAreTwins : Type 0
AttemptsAreTwins = (x : Setting) (p : Plain) → x.refuses ≡ true
    → TwinTrees (between x) (SamePerformed x) (tree_of (attempt_of x.here p)) (tree_of (attempt_of x.there p))
