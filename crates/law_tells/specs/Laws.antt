-- What a refused call tells of each instruction, as clauses say it: with tests for facts of states.
use Rattle.std.specs.Prelude.{◌≡◌, ℕ, ◌<◌, ◌^◌, Bool, true, false, IsTrue, Ok, List, All}
use Rattle.mb_port.specs.Routine.{Call, Answer, Bus, run, answer_in}
use Rattle.mb_port.specs.declared.types.Space.{Space}
use Rattle.law_routines.specs.Tree.{Tree, routine_of}
use Rattle.mb_instr.specs.declared.instruction.Instr.{Instr}
use Rattle.mb_instr.specs.declared.instruction.Instr.TheVariants as instr
use Rattle.mb_instr.specs.declared.instruction.Move.{Move}
use Rattle.mb_instr.specs.declared.instruction.Move.TheVariants as move
use Rattle.mb_instr.specs.declared.registers.Plain.{Plain}
use Rattle.mb_instr.specs.Codes.{IsInstr}
use Rattle.mb_writes.specs.declared.transfers.Movem.{Movem}
use Rattle.def_instructions.specs.Moves.{movem_by}
use Rattle.def_instructions.specs.Rows.{perform_of}
use Rattle.def_instructions.specs.Attempt.{fetched_of, attempt_of}
use Rattle.law_tells.specs.Guarded.{Guarded, Guards}
use Rattle.law_tells.specs.Left.{Resumes, Row, Attempt}

-- which MOVEM a row of what moves is
abbrev pub is_movem : Move → Movem → Type 0
is_movem (move.MovemLoad size ea mask) m = m ≡ movem_by true size ea mask
is_movem (move.MovemStore size ea mask) m = m ≡ movem_by false size ea mask
is_movem _ m = ⊥

-- which MOVEM an instruction is
abbrev pub moves : Instr → Movem → Type 0
moves (instr.Move i) m = is_movem i m
moves _ m = ⊥

-- which MOVEM the instruction is that is fetched at PC from this state on
abbrev pub moves_fetched : {S : Type 0} → Bus S → Space → ℕ → S → Movem → Type 0
moves_fetched bus space pc s m =
    (i : Instr) × (n : ℕ) × (answer_in (run bus (fetched_of space pc) s) ≡ Ok (i, n)) × moves i m

-- a bus that refuses calls, with what is said of its states by tests
pub record Tested (S : Type 0) : Type 0 where
  pub same : S → S → Bool
  pub lawful : Call → S → Bool
  pub allowed : Call → S → Bool
  pub bus : Bus S
  pub serving : S → Bool
  pub unwritten : S → Bool
  pub stands : (c : Call) → Answer c → S → Bool

abbrev pub guarded_of : {S : Type 0} → Tested S → Guarded S
guarded_of x = record {
  same = λ s u. IsTrue (x.same s u);
  lawful = λ c s. IsTrue (x.lawful c s);
  allowed = x.allowed;
  bus = x.bus;
  serving = λ s. IsTrue (x.serving s);
  unwritten = λ s. IsTrue (x.unwritten s);
  stands = λ c answer s. IsTrue (x.stands c answer s);
}

-- each is a long
abbrev pub AreLongs : List ℕ → Type 0
AreLongs xs = All (λ v. v < 2 ^ 32) xs

-- the sixteen registers are longs
abbrev pub HasLongs : Plain → Type 0
HasLongs p = AreLongs p.d × AreLongs p.a

-- each instruction that the table has
abbrev pub RowsTell : Type 0 → Type 0
RowsTell S = (x : Tested S) (space : Space) → Guards (guarded_of x) space
    → (i : Instr) (at : ℕ) (p : Plain) → IsInstr i → HasLongs p
    → Row (guarded_of x) space p (moves i) (perform_of i at space p)

-- a whole attempt, with the fetching of its words
abbrev pub AttemptsTell : Type 0 → Type 0
AttemptsTell S = (x : Tested S) (space : Space) → Guards (guarded_of x) space
    → (p : Plain) (s : S) → HasLongs p → p.pc < 2 ^ 32
    → Attempt (guarded_of x) space p s (moves_fetched x.bus space p.pc s) (attempt_of space p)

-- What resumes the whole, where the calls before it stand, does what the whole does, over every bus: so a MOVEM goes on
-- from its refused transfer.
abbrev pub RestsResume : Type 0 → Type 0 → Type 0
RestsResume S A = (bus : Bus S) (s : S) (whole rest : Tree A) → Resumes (λ c answer. bus c s ≡ (answer, s)) whole rest
    → run bus (routine_of whole) s ≡ run bus (routine_of rest) s
