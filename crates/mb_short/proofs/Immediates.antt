-- What rows make of immediates.
use Rattle.std.proofs.Common.{◌≡◌, ℕ, refl, false}
use Rattle.mb_port.specs.Routine.{Bus, run}
use Rattle.mb_port.specs.declared.types.Space.{Space}
use Rattle.mb_instr.specs.declared.size.Size.{Size}
use Rattle.mb_instr.specs.declared.size.Size.TheVariants.{Long}
use Rattle.mb_instr.specs.declared.operand.Ea.TheVariants.{Imm}
use Rattle.mb_instr.specs.declared.registers.Plain.{Plain}
use Rattle.mb_instr.specs.Codes.{IsInstr}
use Rattle.mb_instr.specs.Sizes.{low_of}
use Rattle.mb_ea.specs.declared.addresses.Target.TheVariants.{Value}
use Rattle.mb_ea.specs.Resolve.{resolve_of}
use Rattle.def_instructions.specs.Attempt.{past}
use Rattle.def_instructions.specs.Ends.{carried}
use Rattle.def_instructions.specs.Rows.{row_of}
use Rattle.mb_table.specs.declared.forms.Taking.{Taking}
use Rattle.mb_table.specs.declared.forms.Taking.TheVariants as take
use Rattle.mb_table.specs.Forms.{immediate_of}
use Rattle.mb_short.specs.Operands.{HasRegister, taken_by}
use Rattle.mb_short.specs.Taken.{Goes}
use Rattle.mb_short.proofs.Goings.{two_go, three_go}
use Rattle.mb_short.proofs.Operands.{Fetches, moved, moved_address, combined, compared, taken}

-- instructions of the table have registers
pub has_changed : (t : Taking) (size : Size) (value : ℕ) → IsInstr (immediate_of t size value) → HasRegister t
has_changed (take.Move n) size value h = h.fields.upper
has_changed (take.MoveAddress n) size value h = h.fields.upper
has_changed (take.Add n) size value h = h.fields.lower
has_changed (take.Subtract n) size value h = h.fields.lower
has_changed (take.And n) size value h = h.fields.lower
has_changed (take.Or n) size value h = h.fields.lower
has_changed (take.Compare n) size value h = h.fields.lower
has_changed (take.AddAddress n) size value h = h.fields.upper
has_changed (take.SubtractAddress n) size value h = h.fields.upper
has_changed (take.CompareAddress n) size value h = h.fields.upper
has_changed take.Test size value h = tt

-- an immediate is at hand
immediate_fetched : {S : Type 0} (bus : Bus S) (size : Size) (value : ℕ) (space : Space) (p : Plain) (s : S)
    → Fetches bus size (Imm value) space p s (Value (low_of size value)) (low_of size value) p
unfolding resolve_of
immediate_fetched bus size value space p s word_at = refl

takes : {S : Type 0} (bus : Bus S) (t : Taking) (size : Size) (value at : ℕ) (space : Space) (p : Plain) (s : S) → HasRegister t
    → run bus (row_of (immediate_of t size value) at space p) s ≡ (carried (taken_by t size (low_of size value) p), s)
takes bus (take.Move n) size value at space p s h = moved bus size n (Imm value) _ _ _ space p p s h (immediate_fetched bus size value space p s)
takes bus (take.MoveAddress n) size value at space p s h =
    moved_address bus size n (Imm value) _ _ _ space p p s (immediate_fetched bus size value space p s)
takes bus (take.Add n) size value at space p s h = combined bus _ size n (Imm value) _ _ _ space p p s h (immediate_fetched bus size value space p s)
takes bus (take.Subtract n) size value at space p s h = combined bus _ size n (Imm value) _ _ _ space p p s h (immediate_fetched bus size value space p s)
takes bus (take.And n) size value at space p s h = combined bus _ size n (Imm value) _ _ _ space p p s h (immediate_fetched bus size value space p s)
takes bus (take.Or n) size value at space p s h = combined bus _ size n (Imm value) _ _ _ space p p s h (immediate_fetched bus size value space p s)
takes bus (take.Compare n) size value at space p s h = compared bus size n (Imm value) _ _ _ space p p s h (immediate_fetched bus size value space p s)
takes bus (take.AddAddress n) size value at space p s h = taken bus _ size (Imm value) _ _ _ space p p s (immediate_fetched bus size value space p s)
takes bus (take.SubtractAddress n) size value at space p s h = taken bus _ size (Imm value) _ _ _ space p p s (immediate_fetched bus size value space p s)
takes bus (take.CompareAddress n) size value at space p s h = taken bus _ size (Imm value) _ _ _ space p p s (immediate_fetched bus size value space p s)
takes bus take.Test size value at space p s h = taken bus _ size (Imm value) _ _ _ space p p s (immediate_fetched bus size value space p s)

pub takes_immediate : {S : Type 0} (bus : Bus S) (t : Taking) (size : Size) (value : ℕ) (space : Space) (p : Plain) (s : S)
    → IsInstr (immediate_of t size value)
    → Goes bus (immediate_of t size value) 2 space p s false (taken_by t size (low_of size value) (past 2 p)) s
takes_immediate bus t size value space p s valid =
    two_go bus (immediate_of t size value) space p (taken_by t size (low_of size value) (past 2 p)) s s
    (takes bus t size value p.pc space (past 2 p) s (has_changed t size value valid))

pub takes_long : {S : Type 0} (bus : Bus S) (t : Taking) (value : ℕ) (space : Space) (p : Plain) (s : S)
    → IsInstr (immediate_of t Long value)
    → Goes bus (immediate_of t Long value) 3 space p s false (taken_by t Long (low_of Long value) (past 3 p)) s
takes_long bus t value space p s valid =
    three_go bus (immediate_of t Long value) space p (taken_by t Long (low_of Long value) (past 3 p)) s s
    (takes bus t Long value p.pc space (past 3 p) s (has_changed t Long value valid))

pub ruleset immediates = has_changed
