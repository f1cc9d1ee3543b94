-- Operands that are checked for writing before they are read.
use Rattle.std.specs.Prelude.{refl, ℕ, ◌+◌, ◌-◌, ◌*◌, ◌^◌, ◌<◌, List, [], ◌∷◌, ◌++◌}
use Rattle.std.proofs.Common.{ap}
use Rattle.mb_port.specs.declared.types.Space.{Space}
use Rattle.mb_instr.specs.declared.registers.Plain.{Plain}
use Rattle.mb_writes.specs.declared.transfers.Movem.{Movem}
use Rattle.law_tells.specs.Guarded.{Guarded, Guards}
use Rattle.law_tells.specs.Laws.{AreLongs}
use Rattle.mb_port.specs.Routine.{Probe, sure, probe, get, put}
use Rattle.mb_port.specs.Pieces.{split_of}
use Rattle.mb_port.specs.declared.types.Piece.{Piece}
use Rattle.mb_port.specs.declared.types.Place.{Place}
use Rattle.law_routines.specs.Refusal.{Ends}
use Rattle.law_routines.specs.Probing.{IsOpen}
use Rattle.law_routines.proofs.Told.{tells_ok, tells_bind, tells_failing, tells_choose, tells_probe, ends_return, ends_then}
use Rattle.law_routines.proofs.Probed.{ends_get_open, ends_put_open}
use Rattle.mb_instr.specs.declared.size.Size.{Size}
use Rattle.mb_instr.specs.declared.size.Size.TheVariants.{Byte}
use Rattle.mb_instr.specs.declared.operand.Ea.{Ea}
use Rattle.mb_instr.specs.declared.operand.Ea.TheVariants.{Dn}
use Rattle.mb_instr.specs.Sizes.{bytes_of}
use Rattle.mb_instr.specs.Registers.{register_of, data_register}
use Rattle.mb_instr.specs.FurtherWords.{swap_word}
use Rattle.mb_ea.specs.Reading.{refused_in}
use Rattle.mb_writes.specs.Writing.{part_of}
use Rattle.def_instructions.specs.Operands.{place_of}
use Rattle.mb_writes.specs.Checked.{probe_pieces_of, probe_operand_of, get_places_of, get_operand_of, put_places_of, put_operand_of}
use Rattle.def_instructions.specs.Locked.{test_and_set_of, tas_in_memory, tas_of}
use Rattle.def_instructions.specs.Locked.{cas_equal, cas_at, cas_of, cas2_equal, cas2_of}
use Rattle.law_tells.specs.Guarded.{Goes, quiet}
use Rattle.law_tells.specs.Left.{Answered, Telling}
use Rattle.law_tells.proofs.Apart.{ArePlaced, split_placed}
use Rattle.law_tells.proofs.Longs.{register_long}
use Rattle.law_tells.proofs.Ranges.{IsFormed}
use Rattle.law_tells.proofs.Parts.{RowTells, Reads, Calm, knowing, row_reading, row_tail, tail_done, tail_then, calm_sure, calm_then}
use Rattle.law_tells.proofs.Operands.{resolve_tells, place_long}
use Rattle.law_tells.proofs.Modifying.{modifying_tells}

-- each place is open
AreOpen : {S : Type 0} → Guarded S → List Place → Type 0
AreOpen x [] = Unit {0}
AreOpen x (p ∷ ps) = IsOpen x.serving x.lawful p × AreOpen x ps

one_more : {S : Type 0} (x : Guarded S) (ps : List Place) (p : Place) → AreOpen x ps → IsOpen x.serving x.lawful p → AreOpen x (ps ++ p ∷ [])
unfolding AreOpen
one_more x [] p h is = (is, tt)
one_more x (q ∷ qs) p h is = (h.0, one_more x qs p h.1 is)

module _ {S : Type 0} (x : Guarded S) (space : Space) (g : Guards x space) where
  -- ---- parts

  probes_tell : (pieces : List Piece) (places : List Place) → ArePlaced pieces → AreOpen x places
      → Telling x (quiet x) (probe_pieces_of space pieces places) (λ rest t fault. Answered x rest t fault × x.unwritten t)
      (λ ps s. quiet x s × AreOpen x ps)
  unfolding AreOpen
  probes_tell [] places are may = tells_ok places (λ s q. (q, may))
  probes_tell (p ∷ ps) places are may =
      tells_bind {mid = λ place s. quiet x s × IsOpen x.serving x.lawful place} (probe space p) (λ place. probe_pieces_of space ps (places ++ place ∷ []))
      (tells_probe g.refuses space p (record {
        lawfully = λ s q. g.probes p s q.0 are.0;
        well = λ s place q yes e.
            let go : Goes x (Probe space p) s = (q.0, g.probes p s q.0 are.0, yes) in
            ((g.opens.call (Probe space p) s q.0 go.1, g.still (Probe space p) s tt go q.1), (g.opens.probed space p s place q.0 go.1 e).0);
        refused = λ s u fault q no e same. ((Probe space p, refl, ap (λ r. r.0) e), q.1);
      }))
      (λ place. knowing x (quiet x) (IsOpen x.serving x.lawful place) _ _ _
      (λ is. probes_tell ps (places ++ place ∷ []) are.1 (one_more x places place may is)))

  probe_tells : (at len : ℕ) → at < 2 ^ 32 → Reads x (AreOpen x) (probe_operand_of space at len)
  unfolding AreOpen
  probe_tells at len h =
      tells_failing (refused_in at) (probe_pieces_of space (split_of at len) []) (probes_tell (split_of at len) [] (split_placed at len h) tt)

  gets_end : (ps : List Place) (value : ℕ) → AreOpen x ps → Ends x.lawful x.allowed x.bus x.serving (get_places_of ps value) (λ v s. x.serving s)
  unfolding AreOpen
  gets_end [] value h = ends_return value (λ s q. q)
  gets_end (p ∷ ps) value h =
      ends_then (get p) (λ v. get_places_of ps (value * 256 ^ p.len + v)) (ends_get_open g.refuses g.opens p h.0)
      (λ v. gets_end ps (value * 256 ^ p.len + v) h.1)

  puts_end : (ps : List Place) (before_end value : ℕ) → AreOpen x ps
      → Ends x.lawful x.allowed x.bus x.serving (put_places_of ps before_end value) (λ v s. x.serving s)
  unfolding AreOpen
  puts_end [] before_end value h = ends_return tt (λ s q. q)
  puts_end (p ∷ ps) before_end value h =
      ends_then (put p (part_of value before_end p.len)) (λ done. put_places_of ps (before_end - p.len) value)
      (ends_put_open g.refuses g.opens p (part_of value before_end p.len) h.0)
      (λ done. puts_end ps (before_end - p.len) value h.1)

  get_calm : (ps : List Place) → AreOpen x ps → Calm x (sure (get_operand_of ps))
  get_calm ps h = calm_sure x space (gets_end ps 0 h)

  put_calm : (ps : List Place) (len value : ℕ) → AreOpen x ps → Calm x (sure (put_operand_of ps len value))
  put_calm ps len value h = calm_sure x space (puts_end ps len value h)

module _ {S : Type 0} (x : Guarded S) (space : Space) (g : Guards x space) {moves : Movem → Type 0} where
  -- ---- rows

  tas_in_memory_tells : (address : ℕ) (before p : Plain) → address < 2 ^ 32 → RowTells x space before moves (tas_in_memory address space p)
  tas_in_memory_tells address before p lt =
      row_reading x space (probe_tells x space g address 1 lt) (λ places may. row_tail x space (
      tail_then x space (get_calm x space g places may) (λ value.
      tail_then x space (put_calm x space g places 1 (test_and_set_of value p.ccr).value may) (λ done. tail_done x space _))))

  pub tas_tells : (ea : Ea) (word_at : ℕ) (p : Plain) → IsFormed ea → AreLongs p.a → RowTells x space p moves (tas_of ea word_at space p)
  tas_tells (Dn n) word_at p is longs = modifying_tells x space g test_and_set_of Byte (Dn n) word_at p tt longs
  tas_tells ea word_at p is longs =
      row_reading x space (resolve_tells x space g ea Byte word_at p is longs)
      (λ to found. tas_in_memory_tells (place_of to.target) p to.plain (place_long to.target found.0))

  cas_at_tells : (size : Size) (word address : ℕ) (before p : Plain) → address < 2 ^ 32
      → RowTells x space before moves (cas_at size word address space p)
  cas_at_tells size word address before p lt =
      row_reading x space (probe_tells x space g address (bytes_of size) lt) (λ places may. row_tail x space (
      tail_then x space (get_calm x space g places may) (λ value.
      tells_choose (cas_equal size word value p) _ _
      (λ e. tail_then x space (put_calm x space g places (bytes_of size) (data_register p (swap_word word).update) may) (λ done. tail_done x space _))
      (λ e. tail_done x space _))))

  pub cas_tells : (size : Size) (ea : Ea) (word word_at : ℕ) (p : Plain) → IsFormed ea → AreLongs p.a
      → RowTells x space p moves (cas_of size ea word word_at space p)
  cas_tells size ea word word_at p is longs =
      row_reading x space (resolve_tells x space g ea size word_at p is longs)
      (λ to found. cas_at_tells size word (place_of to.target) p to.plain (place_long to.target found.0))

  pub cas2_tells : (size : Size) (first second : ℕ) (p : Plain) → AreLongs p.d → AreLongs p.a → RowTells x space p moves (cas2_of size first second space p)
  cas2_tells size first second p words longs =
      let len = bytes_of size in
      row_reading x space
      (probe_tells x space g (register_of p (swap_word first).pointer) len (register_long p (swap_word first).pointer words longs)) (λ ps may.
      row_reading x space
      (probe_tells x space g (register_of p (swap_word second).pointer) len (register_long p (swap_word second).pointer words longs)) (λ qs free.
      row_tail x space (
      tail_then x space (get_calm x space g ps may) (λ one.
      tail_then x space (get_calm x space g qs free) (λ two.
      tells_choose (cas2_equal size first second one two p) _ _
      (λ e. tail_then x space (calm_then x space (put_calm x space g ps len (data_register p (swap_word first).update) may)
      (put_calm x space g qs len (data_register p (swap_word second).update) free)) (λ done. tail_done x space _))
      (λ e. tail_done x space _))))))
