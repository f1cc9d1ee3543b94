-- Lines of memory.
use Rattle.std.specs.Prelude.{◌≡◌, refl, false, ℕ, ◌^◌, ◌<◌, Ok, List, length}
use Rattle.std.proofs.Common.{ap, arith, sym, ◌∙◌}
use Rattle.mb_port.specs.Routine.{ReadLine, WriteLine, Return, ◌>>◌, failing, read_line, write_line}
use Rattle.mb_port.specs.declared.types.Space.{Space}
use Rattle.mb_port.specs.declared.types.Fault.{Fault}
use Rattle.law_routines.proofs.Told.{tells_ok, tells_bind, tells_failing, tells_read_line, tells_write_line}
use Rattle.mb_instr.specs.declared.registers.Plain.{Plain}
use Rattle.mb_ea.specs.Reading.{refused_in}
use Rattle.mb_writes.specs.declared.ends.Ended.TheVariants as ended
use Rattle.mb_writes.specs.declared.transfers.Movem.{Movem}
use Rattle.def_instructions.specs.Ends.{Carried, OtherEnd, Cut, Stop, restored, ending}
use Rattle.law_tells.specs.Guarded.{Guarded, Guards, Goes, IsLine}
use Rattle.law_routines.specs.Tree.{tree_of}
use Rattle.law_tells.specs.Left.{completing_line}
use Rattle.mb_instr.specs.declared.kinds.LineMove.{LineMove}
use Rattle.mb_instr.specs.declared.kinds.LineMove.TheVariants as line_move
use Rattle.mb_instr.specs.Registers.{address_register}
use Rattle.mb_instr.specs.FurtherWords.{line_word}
use Rattle.def_instructions.specs.Lines.{line_address, move_line_of, past_line, past_lines, move16_absolute_of, move16_post_of}
use Rattle.law_tells.specs.Laws.{AreLongs}
use Rattle.law_tells.proofs.Longs.{address_long}
use Rattle.law_tells.proofs.Resumed.{closed_end}
use Rattle.law_tells.proofs.Parts.{RowTells, Reads, row_reading}

line_is : (at : ℕ) → at < 2 ^ 32 → IsLine (line_address at)
line_is at h = (omega arith, omega arith)

module _ {S : Type 0} (x : Guarded S) (space : Space) (g : Guards x space) where
  -- a line that is read
  pub line_read_tells : (first at : ℕ) → IsLine at → Reads x (λ line. length line ≡ 4) (failing (refused_in first) (read_line space at))
  line_read_tells first at is =
      tells_failing (refused_in first) (read_line space at) (tells_read_line g.refuses space at (record {
        lawfully = λ s q. g.reads_lines at s q.0 is;
        well = λ s line q yes e.
            let go : Goes x (ReadLine space at) s = (q.0, g.reads_lines at s q.0 is, yes) in
            ((g.opens.call (ReadLine space at) s q.0 go.1, g.still (ReadLine space at) s tt go q.1), g.lines at line s go e);
        refused = λ s u fault q no e same. ((ReadLine space at, refl, ap (λ r. r.0) e), q.1);
      }))

  -- a line is written, and the instruction is carried out
  pub line_written_tells : {p : Plain} {moves : Movem → Type 0} (at : ℕ) (line : List ℕ) (done : Carried) → IsLine at → length line ≡ 4
      → RowTells x space p moves (ending (λ fault. ended.LineFault fault line) done.plain (write_line space at line) >> Return (Ok done))
  line_written_tells {p = p} at line done is four =
      let stop_by : Fault → Cut OtherEnd = λ fault. Stop (record { ended = ended.LineFault fault line; plain = done.plain }) in
      tells_bind (ending (λ fault. ended.LineFault fault line) done.plain (write_line space at line)) (λ written. Return (Ok done))
      (tells_failing stop_by (write_line space at line)
      (tells_write_line g.refuses space at line (record {
        lawfully = λ s q. g.writes_lines at line s q.0 is four;
        well = λ s written q yes e. g.opens.call (WriteLine space at line) s q.0 (g.writes_lines at line s q.0 is four);
        refused = λ s u fault q no e same.
            let here = g.line_faults at line s fault (q.0, g.writes_lines at line s q.0 is four, no) (ap (λ r. r.0) e) in (
              (WriteLine space at line, refl, ap (λ r. r.0) e),
              (
                four,
                done,
                refl,
                closed_end stop_by (restored p) (λ (written : Unit {0}). done) (tree_of (write_line space at line))
                    ∙ ap (λ (a : ℕ). tree_of (completing_line space a line done)) (sym here),
              ),
            );
      })))
      (λ written. tells_ok done (λ s q. q))

  -- MOVE16

  moved_tells : {moves : Movem → Type 0} (from to : ℕ) (before after : Plain) → from < 2 ^ 32 → to < 2 ^ 32
      → RowTells x space before moves (move_line_of from to space after)
  moved_tells from to before after comes goes =
      row_reading x space (line_read_tells (line_address from) (line_address from) (line_is from comes)) (λ line four.
      line_written_tells (line_address to) line (record { flow = false; plain = after }) (line_is to goes) four)

  pub move16_absolute_tells : {moves : Movem → Type 0} (kind : LineMove) (n place : ℕ) (p : Plain) → place < 2 ^ 32 → AreLongs p.a
      → RowTells x space p moves (move16_absolute_of kind n place space p)
  move16_absolute_tells line_move.PostToAbsolute n place p lt longs = moved_tells (address_register p n) place p (past_line n p) (address_long p n longs) lt
  move16_absolute_tells line_move.AbsoluteToPost n place p lt longs = moved_tells place (address_register p n) p (past_line n p) lt (address_long p n longs)
  move16_absolute_tells line_move.IndirectToAbsolute n place p lt longs = moved_tells (address_register p n) place p p (address_long p n longs) lt
  move16_absolute_tells line_move.AbsoluteToIndirect n place p lt longs = moved_tells place (address_register p n) p p lt (address_long p n longs)

  pub move16_tells : {moves : Movem → Type 0} (m word : ℕ) (p : Plain) → AreLongs p.a → RowTells x space p moves (move16_post_of m word space p)
  move16_tells m word p longs =
      let n = (line_word word).destination in
      moved_tells (address_register p m) (address_register p n) p (past_lines m n p) (address_long p m longs) (address_long p n longs)
