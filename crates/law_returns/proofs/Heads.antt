-- What RTE reads of a frame that is seen.
use Rattle.std.proofs.Common.{◌≡◌, ℕ, ◌+◌, ◌<◌, ◌≤◌, List, length, drop, refl, subst, arith, Result, Ok}
use Rattle.std.specs.List.{AllByRecursion}
use Rattle.std.proofs.lemmas.List.Elements.{recursion_from_All}
use Rattle.byteorder.specs.Endian.{big_number}
use Rattle.mb_port.specs.Routine.{Bus, Routine, Return, Then, run, tried}
use Rattle.mb_port.specs.declared.types.Space.TheVariants.{Super}
use Rattle.mb_frames.specs.declared.frame.Access.{Access}
use Rattle.mb_frames.specs.declared.frame.Frame.{Frame}
use Rattle.mb_frames.specs.declared.frame.Frame.TheVariants as frame
use Rattle.mb_frames.specs.Layout.{Fits, StandsIn, fields_of, format_of, vector_offset_of, frame_bytes, frame_length, IsFrame, pc_of, sr_of}
use Rattle.mb_frames.specs.Reading.{word_at, long_at, format_of_word, access_in}
use Rattle.mb_frames.proofs.Fields.{ReadsAs, fields_read}
use Rattle.mb_frames.proofs.RoundTrip.{access-read, format-read, frame_bytes-stand_alone, length-frame_bytes}
use Rattle.mb_model.specs.Status.{kept_status}
use Rattle.mb_ea.specs.Addresses.{sum}
use Rattle.mb_ea.specs.Reading.{read_operand_of}
use Rattle.mb_ea.specs.declared.reading.ReadFault.{ReadFault}
use Rattle.def_processor.specs.Return.{Head, read_head_of}
use Rattle.law_returns.specs.Keeping.{Placing, Viewing, Shows, Keeps}
use Rattle.law_returns.proofs.Readings.{Gives, followed, at_once, shown_still, shown_behind, reads}

-- what RTE makes of its head
abbrev pub head_from : Frame → Head
head_from f = record { sr = kept_status (sr_of f); pc = pc_of f; format = format_of f }

pub frame_reads : (f : Frame) → IsFrame f → AllByRecursion (ReadsAs (frame_bytes f)) (fields_of f)
frame_reads f lawful =
    fields_read (frame_bytes f) (fields_of f)
    (recursion_from_All (StandsIn (frame_bytes f)) (fields_of f) (frame_bytes-stand_alone (frame_bytes f) f refl))
    (recursion_from_All Fits (fields_of f) lawful.1)

record IsHead (b : List ℕ) (f : Frame) : Type 0 where
  sr : word_at b 0 ≡ sr_of f
  pc : long_at b 2 ≡ pc_of f
  format : format_of_word (word_at b 6) ≡ format_of f

of_reads : (f : Frame) (b : List ℕ) → vector_offset_of f < 4096 → AllByRecursion (ReadsAs b) (fields_of f) → IsHead b f
unfolding word_at long_at
of_reads (frame.Short sr pc offset) b low (s, (p, (w, end))) = record { sr = s; pc = p; format = (format-read _ 0 offset w low).0 }
of_reads (frame.Throwaway sr pc offset) b low (s, (p, (w, end))) = record { sr = s; pc = p; format = (format-read _ 1 offset w low).0 }
of_reads (frame.Address sr pc offset address) b low (s, (p, (w, more))) = record { sr = s; pc = p; format = (format-read _ 2 offset w low).0 }
of_reads (frame.Access sr pc offset access) b low (s, (p, (w, more))) = record { sr = s; pc = p; format = (format-read _ 7 offset w low).0 }

pub fields_of_frame : (sr pc offset : ℕ) (a : Access) → IsFrame (frame.Access sr pc offset a) → access_in (frame_bytes (frame.Access sr pc offset a)) ≡ a
fields_of_frame sr pc offset a lawful = behind_head (frame_bytes (frame.Access sr pc offset a)) a (frame_reads (frame.Access sr pc offset a) lawful)
  where
    behind_head : (b : List ℕ) (a : Access) → AllByRecursion (ReadsAs b) (fields_of (frame.Access sr pc offset a)) → access_in b ≡ a
    behind_head b a (s, (p, (w, more))) = access-read b a more

frame_length-some : (f : Frame) → 8 ≤ frame_length (format_of f)
frame_length-some (frame.Short sr pc offset) = omega arith
frame_length-some (frame.Throwaway sr pc offset) = omega arith
frame_length-some (frame.Address sr pc offset address) = omega arith
frame_length-some (frame.Access sr pc offset access) = omega arith

pub at_least_eight : (f : Frame) → 8 ≤ length (frame_bytes f)
at_least_eight f = let e = length-frame_bytes f in let h = frame_length-some f in omega arith

module _ (S : Type 0) (bus : Bus S) (place : Placing S) (view : Viewing S) (keeps : Keeps bus place view) where
  -- an operand in bytes that are seen
  reads_in : (at k n : ℕ) (b : List ℕ) (s : S) → n ≤ 5 → k + n ≤ length b → Shows (view s) at (length b) b
      → Gives bus place view (read_operand_of Super (sum at k) n) s (Ok (big_number n (drop k b)))
  reads_in at k n b s few room h =
      reads S bus place view keeps (sum at k) n (drop k b) s few (omega arith)
      (λ i l. shown_behind (view s) at (length b) k b (omega arith) h i (omega arith))

  pub reads_head : (at : ℕ) (f : Frame) (s : S) → IsFrame f → Shows (view s) at (length (frame_bytes f)) (frame_bytes f)
      → Gives bus place view (read_head_of at) s (Ok (head_from f))
  unfolding word_at long_at
  reads_head at f s lawful h =
      let b = frame_bytes f in
      let is = of_reads f b lawful.0 (frame_reads f lawful) in
      let room = at_least_eight f in
      let first = reads_in at 0 2 b s (omega arith) (omega arith) h in
      let t = (run bus (read_operand_of Super (sum at 0) 2) s).1 in
      let in_t = shown_still place view s t at (length b) b first.keeps h in
      let second = reads_in at 2 4 b t (omega arith) (omega arith) in_t in
      let u = (run bus (read_operand_of Super (sum at 2) 4) t).1 in
      let in_u = shown_still place view t u at (length b) b second.keeps in_t in
      let third = reads_in at 6 2 b u (omega arith) (omega arith) in_u in
      let v = (run bus (read_operand_of Super (sum at 6) 2) u).1 in
      let made : ℕ → ℕ → ℕ → Head = λ sr pc word. record { sr = kept_status sr; pc = pc; format = format_of_word word } in
      let head : made (word_at b 0) (long_at b 2) (word_at b 6) ≡ head_from f = rw (is.sr, is.pc, is.format) refl in
      let last : Routine (Result Head ReadFault) = Return (Ok (made (word_at b 0) (long_at b 2) (word_at b 6))) in
      let ends : Gives bus place view last v (Ok (head_from f)) =
      subst (λ (x : Head). Gives bus place view last v (Ok x)) head (at_once bus place view v (Ok (made (word_at b 0) (long_at b 2) (word_at b 6)))) in
      let words : ℕ → ℕ → Result ℕ ReadFault → Routine (Result Head ReadFault) =
      λ sr pc r. tried r (λ word. Return (Ok (made sr pc word))) in
      let counters : ℕ → Result ℕ ReadFault
      → Routine (Result Head ReadFault) = λ sr r. tried r (λ pc. Then (read_operand_of Super (sum at 6) 2) (words sr pc)) in
      let status : Result ℕ ReadFault → Routine (Result Head ReadFault) = λ r. tried r (λ sr. Then (read_operand_of Super (sum at 2) 4) (counters sr)) in
      followed bus place view (read_operand_of Super (sum at 0) 2) status s (Ok (word_at b 0)) _ first
      (followed bus place view (read_operand_of Super (sum at 2) 4) (counters (word_at b 0)) t (Ok (long_at b 2)) _ second
      (followed bus place view (read_operand_of Super (sum at 6) 2) (words (word_at b 0) (long_at b 2)) u (Ok (word_at b 6)) _ third ends))
