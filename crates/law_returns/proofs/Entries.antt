-- The frames of an entry that is carried out are seen.
use Rattle.std.proofs.Common.{◌≡◌, ℕ, ◌*◌, ◌^◌, ◌<◌, ◌≤◌, ◌&&◌, Bool, true, false, if◌then◌else◌, List, [], length, slice_index, refl, sym, subst, arith, Option, Some, None, Result, Ok, Err}
use Rattle.mb_port.specs.Routine.{Bus, Routine, Return, Then, run, tried, either}
use Rattle.mb_port.specs.Pieces.{cut}
use Rattle.mb_port.specs.declared.types.Space.TheVariants.{Super}
use Rattle.mb_port.specs.declared.types.Piece.{Piece}
use Rattle.mb_port.specs.declared.types.Place.{Place}
use Rattle.mb_port.specs.declared.types.Fault.{Fault}
use Rattle.mb_instr.specs.Registers.{is_master}
use Rattle.mb_frames.specs.declared.frame.Access.{Access}
use Rattle.mb_frames.specs.declared.frame.Frame.{Frame}
use Rattle.mb_frames.specs.Layout.{format_of, frame_length}
use Rattle.mb_frames.proofs.RoundTrip.{length-frame_bytes}
use Rattle.mb_model.specs.declared.processor.Cpu.{Cpu}
use Rattle.mb_ea.specs.Addresses.{sum}
use Rattle.mb_ea.specs.Reading.{read_operand_of}
use Rattle.mb_ea.specs.declared.reading.ReadFault.{ReadFault}
use Rattle.mb_writes.specs.Checked.{probe_pieces_of}
use Rattle.def_processor.specs.declared.entering.Cause.{Cause}
use Rattle.def_processor.specs.declared.entering.Entered.TheVariants as entered
use Rattle.def_processor.specs.Entry as entry
use Rattle.def_processor.specs.Entry.{Stacked, Frames, Entrance, stacked, is_interrupt, frame_of, throwaway_of, handler_stack, frames_of, handler_regs, awake, unstacked, put_bytes_of, probe_second_of, put_second_of, check_frames_of, put_frames_of, go_to_handler_of}
use Rattle.law_returns.specs.Keeping.{Placing, Viewing, IsKept, Keeps}
use Rattle.law_returns.specs.Returns.{AreApart, IsSeen, SecondIsSeen, AreSeen, EntryIsSeen}
use Rattle.law_returns.proofs.Bytes.{frame_is_bytes}
use Rattle.law_returns.proofs.Puts.{AreAt, cut_addressed, still_at, probes, puts, read_keeps}
use Rattle.mb_frames.specs.declared.places.TheConstants.{LONGEST}

-- a frame as the code has it
pub record IsFrameOn (s : Stacked) : Type 0 where
  pub at : s.at < 2 ^ 32
  pub few : length s.bytes ≤ LONGEST
  pub bytes : (k : ℕ) → slice_index s.bytes k < 2 ^ 8

abbrev pub SecondIsFrame : Option Stacked → Type 0
SecondIsFrame None = Unit {0}
SecondIsFrame (Some s) = IsFrameOn s

frame_length-few : (f : Frame) → frame_length (format_of f) ≤ LONGEST
frame_length-few f = grind arith

is_frame : (f : Frame) (top : ℕ) → IsFrameOn (stacked f top)
is_frame f top = record {
  at = omega arith;
  few = let e = length-frame_bytes f in let h = frame_length-few f in omega arith;
  bytes = frame_is_bytes f;
}

abbrev pieces_of : Stacked → List Piece
pieces_of s = cut (length s.bytes) s.at (length s.bytes)

abbrev SecondIsAt : (Piece → Option Place) → Option Stacked → List Place → Type 0
SecondIsAt place None places = Unit {0}
SecondIsAt place (Some s) places = AreAt place (pieces_of s) places

record AreChecked {S : Type 0} (place : Placing S) (t : S) (f : Frames) (places : entry.Places) : Type 0 where
  first : AreAt (place t) (pieces_of f.first) places.first
  second : SecondIsAt (place t) f.second places.second

module _ (S : Type 0) (bus : Bus S) (place : Placing S) (view : Viewing S) (keeps : Keeps bus place view) where
  -- ---- checks

  made : List Place → List Place → entry.Places
  made first second = record { first = first; second = second }

  after_second : (f : Frames) (s : Stacked) (first : List Place) (places : entry.Places) (t : S) (r : Result (List Place) Fault)
      → (run bus (probe_pieces_of Super (pieces_of s) []) t).0 ≡ r → IsFrameOn s → f.second ≡ Some s → AreAt (place t) (pieces_of f.first) first
      → (let rest : Result (List Place) Fault → Routine (Result entry.Places Fault) =
      λ r. tried r (λ second. Return (Ok (record { first = first; second = second }))) in
      let u = (run bus (probe_pieces_of Super (pieces_of s) []) t).1 in
      (run bus (rest r) u).0 ≡ Ok places → AreChecked place (run bus (rest r) u).1 f places)
  after_second f s first places t (Err fault) is on there at_first h = let no : ⊥ = cc in absurd no
  after_second f s first places t (Ok second) is on there at_first h =
      let u = (run bus (probe_pieces_of Super (pieces_of s) []) t).1 in
      let found = probes S bus place view keeps (pieces_of s) [] second t (cut_addressed (length s.bytes) s.at (length s.bytes) on.at) is in
      let e : places ≡ record { first = first; second = second } = cc in
      subst (λ (p : entry.Places). AreChecked place u f p) (sym e) (record {
        first = still_at place t u (pieces_of f.first) first found.kept.stands at_first;
        second = subst (λ (o : Option Stacked). SecondIsAt (place u) o second) (sym there)
            (subst (λ (l : List Place). AreAt (place u) (pieces_of s) l) (sym found.all_are) found.at);
      })

  by_second : (f : Frames) (o : Option Stacked) (first : List Place) (places : entry.Places) (t : S)
      → f.second ≡ o → SecondIsFrame o → AreAt (place t) (pieces_of f.first) first
      → (let rest : Result (List Place) Fault → Routine (Result entry.Places Fault) =
      λ r. tried r (λ second. Return (Ok (record { first = first; second = second }))) in
      (run bus (Then (probe_second_of o) rest) t).0 ≡ Ok places → AreChecked place (run bus (Then (probe_second_of o) rest) t).1 f places)
  by_second f None first places t there on at_first h =
      let e : places ≡ record { first = first; second = [] } = cc in
      subst (λ (p : entry.Places). AreChecked place t f p) (sym e) (record {
        first = at_first;
        second = subst (λ (o : Option Stacked). SecondIsAt (place t) o []) (sym there) tt;
      })
  by_second f (Some s) first places t there on at_first h =
      after_second f s first places t (run bus (probe_pieces_of Super (pieces_of s) []) t).0 refl on there at_first h

  after_first : (f : Frames) (places : entry.Places) (s : S) (r : Result (List Place) Fault)
      → (run bus (probe_pieces_of Super (pieces_of f.first) []) s).0 ≡ r → IsFrameOn f.first → SecondIsFrame f.second
      → (let rest : Result (List Place) Fault → Routine (Result entry.Places Fault) =
      λ r. tried r (λ first. Then (probe_second_of f.second) (λ r. tried r (λ second. Return (Ok (record { first = first; second = second }))))) in
      let t = (run bus (probe_pieces_of Super (pieces_of f.first) []) s).1 in
      (run bus (rest r) t).0 ≡ Ok places → AreChecked place (run bus (rest r) t).1 f places)
  after_first f places s (Err fault) is on more h = let no : ⊥ = cc in absurd no
  after_first f places s (Ok first) is on more h =
      let t = (run bus (probe_pieces_of Super (pieces_of f.first) []) s).1 in
      let found = probes S bus place view keeps (pieces_of f.first) [] first s (cut_addressed (length f.first.bytes) f.first.at
      (length f.first.bytes) on.at) is in
      by_second f f.second first places t refl more (subst (λ (l : List Place). AreAt (place t) (pieces_of f.first) l) (sym found.all_are) found.at) h

  checks : (f : Frames) (places : entry.Places) (s : S) → IsFrameOn f.first → SecondIsFrame f.second
      → (run bus (check_frames_of f) s).0 ≡ Ok places → AreChecked place (run bus (check_frames_of f) s).1 f places
  checks f places s on more h = after_first f places s (run bus (probe_pieces_of Super (pieces_of f.first) []) s).0 refl on more h

  -- ---- writes

  second_put : (f : Frames) (o : Option Stacked) (places : entry.Places) (t : S) → f.second ≡ o → SecondIsFrame o → AreApart f.first o
      → SecondIsAt (place t) o places.second → IsSeen (view t) f.first
      → AreSeen (view (run bus (put_second_of o places.second) t).1) f
  second_put f None places t there on apart at_second h =
      record { first = h; second = subst (λ (o : Option Stacked). SecondIsSeen (view t) o) (sym there) tt }
  second_put f (Some s) places t there on apart at_second h =
      let u = (run bus (put_bytes_of places.second s.bytes) t).1 in
      let done = puts S bus place view keeps (length s.bytes) s.at (length s.bytes) places.second s.bytes t (omega arith) on.at on.bytes (omega arith)
      (let few = on.few in omega arith) at_second in record {
        first = λ k l. done.others (sum f.first.at k) (slice_index f.first.bytes k) (λ j m. apart k j l m) (h k l);
        second = subst (λ (o : Option Stacked). SecondIsSeen (view u) o) (sym there) done.shown;
      }

  writes : (f : Frames) (places : entry.Places) (t : S) → IsFrameOn f.first → SecondIsFrame f.second → AreApart f.first f.second
      → AreChecked place t f places → AreSeen (view (run bus (put_frames_of f places) t).1) f
  writes f places t on more apart h =
      let n = length f.first.bytes in
      let done = puts S bus place view keeps n f.first.at n places.first f.first.bytes t (omega arith) on.at on.bytes (omega arith)
      (let few = on.few in omega arith) h.first in
      let u = (run bus (put_bytes_of places.first f.first.bytes) t).1 in
      second_put f f.second places u refl more apart (second_still f.second places.second t u done.stands h.second) done.shown
    where
      second_still : (o : Option Stacked) (qs : List Place) (t u : S) → ((p : Piece) (q : Place) → place t p ≡ Some q → place u p ≡ Some q)
          → SecondIsAt (place t) o qs → SecondIsAt (place u) o qs
      second_still None qs t u stands h = tt
      second_still (Some s) qs t u stands h = still_at place t u (pieces_of s) qs stands h

  -- ---- the vector

  second_kept : (o : Option Stacked) (t u : S) → IsKept place view t u → SecondIsSeen (view t) o → SecondIsSeen (view u) o
  second_kept None t u kept h = tt
  second_kept (Some s) t u kept h = λ k l. kept.shows (sum s.at k) (slice_index s.bytes k) (h k l)

  seen_kept : (f : Frames) (t u : S) → IsKept place view t u → AreSeen (view t) f → AreSeen (view u) f
  seen_kept f t u kept h = record {
    first = λ k l. kept.shows (sum f.first.at k) (slice_index f.first.bytes k) (h.first k l);
    second = second_kept f.second t u kept h.second;
  }

  either_still : {A B E : Type 0} (P : S → Type 0) (r : Result A E) (g : E → B) (f : A → B) (t : S)
      → P t → P (run bus (either r (λ e. Return (g e)) (λ a. Return (f a))) t).1
  either_still P (Ok a) g f t h = h
  either_still P (Err e) g f t h = h

  vector_keeps : (f : Frames) (c : Cause) (cpu : Cpu) (t : S) → AreSeen (view t) f → AreSeen (view (run bus (go_to_handler_of c cpu) t).1) f
  vector_keeps f c cpu t h =
      let at = sum cpu.vbr (4 * c.vector) in
      let u = (run bus (read_operand_of Super at 4) t).1 in
      either_still (λ (w : S). AreSeen (view w) f) (run bus (read_operand_of Super at 4) t).0
      (λ (refused : ReadFault). (let e : Entrance = (entered.DoubleFault, cpu) in e))
      (λ (target : ℕ). (let e : Entrance = (entered.Done, record cpu { regs = record cpu.regs { pc = target } }) in e)) u
      (seen_kept f t u (read_keeps S bus place view keeps at 4 t (omega arith)) h)

  -- ---- the whole

  not_done : (a : Option Access) (fault : Fault) (c : Cause) (cpu : Cpu) → (unstacked a fault c cpu).0 ≡ entered.Done → ⊥
  not_done None fault c cpu h = cc
  not_done (Some a) fault c cpu h = cc

  after_check : (f : Frames) (c : Cause) (cpu handler : Cpu) (s : S) (r : Result entry.Places Fault)
      → (run bus (check_frames_of f) s).0 ≡ r → IsFrameOn f.first → SecondIsFrame f.second → AreApart f.first f.second
      → (let rest : Result entry.Places Fault → Routine Entrance =
      λ r. either r (λ fault. Return (unstacked c.access fault c cpu)) (λ places. Then (put_frames_of f places) (λ done. go_to_handler_of c handler)) in
      let t = (run bus (check_frames_of f) s).1 in
      (run bus (rest r) t).0.0 ≡ entered.Done → AreSeen (view (run bus (rest r) t).1) f)
  after_check f c cpu handler s (Err fault) is on more apart h = absurd (not_done c.access fault c cpu h)
  after_check f c cpu handler s (Ok places) is on more apart h =
      let t = (run bus (check_frames_of f) s).1 in
      let u = (run bus (put_frames_of f places) t).1 in
      vector_keeps f c handler u (writes f places t on more apart (checks f places s on more is))

second_is_frame : (b : Bool) (f : Frame) (top : ℕ) → SecondIsFrame (if b then Some (stacked f top) else None)
second_is_frame true f top = is_frame f top
second_is_frame false f top = tt

pub entry_is_seen : (S : Type 0) → EntryIsSeen S
unfolding frames_of
entry_is_seen S bus place view c cpu s keeps lawful apart h =
    let r = cpu.regs in
    let f = frames_of c r in
    after_check S bus place view keeps f c (awake cpu) (record (awake cpu) { regs = handler_regs c f r }) s (run bus (check_frames_of f) s).0 refl
    (is_frame (frame_of r.sr c) (handler_stack r)) (second_is_frame (is_interrupt c && is_master r.sr) (throwaway_of r.sr c) r.isp) apart h
