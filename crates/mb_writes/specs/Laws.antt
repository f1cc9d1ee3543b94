-- What holds of every operand that is written in parts, over every bus.
use Rattle.std.specs.Prelude.{◌≡◌, ℕ, ◌≤◌, List, ◌++◌}
use Rattle.mb_port.specs.Routine.{Bus, run, ◌>>◌, failing}
use Rattle.mb_port.specs.declared.types.Space.{Space}
use Rattle.mb_frames.specs.declared.pend.Pend.{Pend}
use Rattle.mb_writes.specs.declared.ends.WriteFault.{WriteFault}
use Rattle.mb_writes.specs.Writing.{pending_of, write_pieces_of, write_operand_of, complete_of}

-- to write an operand is to complete the list of all its pieces
abbrev pub PutIsComplete : Type 0 → Type 0
PutIsComplete S =
    (bus : Bus S) (space : Space) (at len value : ℕ) (s : S) → 1 ≤ len →
    run bus (write_operand_of space at len value) s ≡ run bus (complete_of space (pending_of at len value)) s

-- what is left of the front, and all of the back
abbrev pub with_back : List Pend → WriteFault → WriteFault
with_back back refused = record refused { rest = record { items = refused.rest.items ++ back } }

-- to complete a list is to complete its front and then its back
abbrev pub FrontThenBack : Type 0 → Type 0
FrontThenBack S =
    (bus : Bus S) (space : Space) (first : ℕ) (front back : List Pend) (s : S) →
    run bus (write_pieces_of space first (front ++ back)) s
    ≡ run bus (failing (with_back back) (write_pieces_of space first front) >> write_pieces_of space first back) s
