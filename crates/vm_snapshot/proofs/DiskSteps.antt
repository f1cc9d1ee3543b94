-- A disk by its bytes.
use Rattle.std.proofs.Common.{◌≡◌, ℕ, ◌+◌, ◌*◌, ◌≤◌, List, [], ◌∷◌, ◌++◌, length, sym, ap, subst, false, ◌∙◌, arith}
use Rattle.std.specs.Prelude.{All}
use Rattle.std.proofs.lemmas.List.{append-nil, drop_all}
use Rattle.mb_saved.specs.declared.line.RamLine.{RamLine}
use Rattle.mb_spelling.specs.Spelling.{Read}
use Rattle.mb_walk.specs.Memory.{overwritten}
use Rattle.vm_disk.specs.Disk.{DiskState, opened, zeros}
use Rattle.vm_disk.specs.declared.disk.TheConstants.{BLOCK_BYTES}
use Rattle.vm_snapshot.specs.Memory.{memory}
use Rattle.vm_snapshot.proofs.Held.{lines_fit}
use Rattle.vm_disk.proofs.Shapes.{length-zeros}

all_over : (old new : List ℕ) → length new ≡ length old → overwritten old 0 new ≡ new
all_over old new same =
    ap (λ (rest : List ℕ). new ++ rest) (drop_all (0 + length new) old (omega arith)) ∙ append-nil new

abbrev pub open_disk : List ℕ → DiskState
open_disk bytes = record { bytes = bytes; block = 0; refused = false; position = 0; buffer = zeros BLOCK_BYTES }

pub opened_whole : (blocks : ℕ) (bytes : List ℕ) → length bytes ≡ BLOCK_BYTES * blocks → opened blocks ((0, bytes) ∷ []) ≡ open_disk bytes
opened_whole blocks bytes whole = ap open_disk (all_over (zeros (BLOCK_BYTES * blocks)) bytes (whole ∙ sym (length-zeros (BLOCK_BYTES * blocks))))

-- the lines of its blocks lie in them
pub blocks_fit : (blocks : ℕ) (text left : List ℕ) (lines : List RamLine) → blocks ≤ 32768 → (memory (32 * blocks)).read text ≡ Read lines left
    → All (λ (line : RamLine). line.at + 16 ≤ BLOCK_BYTES * blocks) lines
blocks_fit blocks text left lines few e =
    let same : 16 * (32 * blocks) ≡ BLOCK_BYTES * blocks = omega arith in
    subst (λ (n : ℕ). All (λ (line : RamLine). line.at + 16 ≤ n) lines) same (lines_fit (32 * blocks) text left lines (omega arith) e)
