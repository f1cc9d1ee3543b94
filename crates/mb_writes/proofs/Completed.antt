-- Lists of pending writes, completed in parts.
use Rattle.std.proofs.Common.{◌≡◌, ℕ, zero, suc, ◌≤◌, List, [], ◌∷◌, ◌++◌, Result, Ok, Err, refl, arith}
use Rattle.mb_port.specs.Routine.{Bus, Write, run, tried, other_fault, failing, ◌>>◌}
use Rattle.mb_port.specs.declared.types.Space.{Space}
use Rattle.mb_port.specs.declared.types.Fault.{Fault}
use Rattle.mb_frames.specs.declared.pend.Pend.{Pend}
use Rattle.mb_frames.specs.AccessFields.{piece_of}
use Rattle.mb_writes.specs.Writing.{pending_of, write_fault_at, write_pieces_of, write_operand_of, complete_of}
use Rattle.mb_writes.specs.Laws.{with_back}

pub put_is_complete : {S : Type 0} (bus : Bus S) (space : Space) (at len value : ℕ) (s : S) → 1 ≤ len →
    run bus (write_operand_of space at len value) s ≡ run bus (complete_of space (pending_of at len value)) s
unfolding write_operand_of
put_is_complete bus space at zero value s h = absurd (omega arith)
put_is_complete bus space at (suc len) value s h = refl

-- the pieces behind the first one, by what the first one's write answered
behind : {S : Type 0} (bus : Bus S) (space : Space) (first : ℕ) (p : Pend) (ps back : List Pend) →
    ((t : S) → run bus (write_pieces_of space first (ps ++ back)) t
    ≡ run bus (failing (with_back back) (write_pieces_of space first ps) >> write_pieces_of space first back) t) →
    (r : Result (Unit {0}) Fault) (t : S) →
    run bus (tried (other_fault (write_fault_at first ((p ∷ ps) ++ back)) r) (λ _. write_pieces_of space first (ps ++ back))) t
    ≡ run bus (failing (with_back back)
    (tried (other_fault (write_fault_at first (p ∷ ps)) r) (λ _. write_pieces_of space first ps)) >> write_pieces_of space first back) t
behind bus space first p ps back more (Ok done) t = more t
behind bus space first p ps back more (Err fault) t = refl

pub front_then_back : {S : Type 0} (bus : Bus S) (space : Space) (first : ℕ) (front back : List Pend) (s : S) →
    run bus (write_pieces_of space first (front ++ back)) s
    ≡ run bus (failing (with_back back) (write_pieces_of space first front) >> write_pieces_of space first back) s
front_then_back bus space first [] back s = refl
front_then_back bus space first (p ∷ ps) back s =
    behind bus space first p ps back (λ t. front_then_back bus space first ps back t)
    (bus (Write space (piece_of p) p.value) s).0 (bus (Write space (piece_of p) p.value) s).1
