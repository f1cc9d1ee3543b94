-- Which machines can be saved.
use Rattle.std.proofs.Common.{◌≡◌, ◌∙◌, ℕ, ◌%◌, Bool, true, false, List, [], ◌∷◌, length, replicate, refl, ap, sym, subst, arith}
use Rattle.std.specs.Prelude.{All, Option, Some, None, if◌then◌else◌}
use Rattle.std.proofs.lemmas.List.{length-map, length-replicate, length-set}
use Rattle.std.proofs.lemmas.List.Elements.{All-head, All-map, All-tail, All-weaker}
use Rattle.mb_port.specs.Routine.{Call, Fetch, Read, Write, ReadLine, WriteLine, Probe, Get, Put, ReadMmu, SetMmu, FlushKept, Test, ResetDevices}
use Rattle.mb_port.specs.declared.types.Flush.{Flush}
use Rattle.mb_port.specs.declared.types.Flush.TheVariants as flush
use Rattle.mb_port.specs.declared.types.Space.{Space}
use Rattle.mb_srec.specs.Image.{LiesBelow}
use Rattle.mb_model.specs.declared.outcome.RunState.{RunState}
use Rattle.mb_model.specs.declared.outcome.RunState.TheVariants.{Running, Stopped, Halted, Off}
use Rattle.mb_model.specs.Keeping.{KeptLists, Rule, after_ptest, flushed, flushed_in, list_of}
use Rattle.mb_model.specs.Pages.{has_big_pages, other_half, page_of}
use Rattle.mb_walk.specs.declared.found.Found.{Found}
use Rattle.mb_walk.specs.declared.found.Found.TheVariants as found
use Rattle.mb_walk.specs.Memory.{Contents, overwritten, with_contents}
use Rattle.mb_walk.proofs.MemoryLemmas.{length-overwritten, overwritten-nothing}
use Rattle.def_machine.specs.declared.reference.Reference.{Reference}
use Rattle.def_machine.specs.declared.reference.Settled.{Settled}
use Rattle.def_machine.specs.declared.reference.Settled.TheVariants.{To, Refused, Unsettled}
use Rattle.def_machine.specs.World.{World}
use Rattle.def_machine.specs.Access.{by_found, by_settled, matched, search_for, settled, translated}
use Rattle.def_machine.specs.Bus.{bus_of, fetching_of, reading_of, tested_by, writing_of}
use Rattle.def_machine.specs.Machine.{reset_with, run_of, takes_steps}
use Rattle.def_machine.proofs.Beneath.{calls_stand_beneath, places_stand_beneath, runs_leave_the_size}
use Rattle.def_machine.proofs.Builds.{built-run}
use Rattle.def_machine.proofs.RunsLeave.{runs_leave}
use Rattle.mb_saved.specs.declared.line.RamLine.{RamLine}
use Rattle.mb_saved.specs.Lines.{content_of, contents_of, ram_by}
use Rattle.mb_saved.specs.Saved.{IsLine, is_off, is_stopped}
use Rattle.vm_saved.specs.Saving.{RunsCanBeSaved, RunsKeepLists, SavedCanBeSaved, StartsCanBeSaved}
use Rattle.vm_saved.proofs.Runs.{runs_are_going}

-- ---- memory with data that lies in it

chunk_count : (ram : List ℕ) (at : ℕ) (bytes : List ℕ) → LiesBelow (length ram) (at, bytes) → length (overwritten ram at bytes) ≡ length ram
chunk_count ram at [] lies = ap (λ (l : List ℕ). length l) (overwritten-nothing ram at [] refl)
chunk_count ram at (byte ∷ bytes) lies = length-overwritten ram at (byte ∷ bytes) (lies (omega arith))

contents_count : (ram : List ℕ) (contents : Contents) → All (LiesBelow (length ram)) contents → length (with_contents ram contents) ≡ length ram
contents_count ram [] lie = refl
contents_count ram ((at, bytes) ∷ chunks) lie =
    let below = LiesBelow (length ram) in
    let same = chunk_count ram at bytes (All-head below (at, bytes) chunks lie) in
    contents_count (overwritten ram at bytes) chunks (subst (λ (n : ℕ). All (LiesBelow n) chunks) (sym same) (All-tail below (at, bytes) chunks lie))
    ∙ same

pub loaded_count : (size : ℕ) (contents : Contents) → All (LiesBelow size) contents → length (with_contents (replicate size 0) contents) ≡ size
loaded_count size contents lie =
    let zeros : length (replicate size 0) ≡ size = length-replicate size 0 in
    contents_count (replicate size 0) contents (subst (λ (n : ℕ). All (LiesBelow n) contents) (sym zeros) lie) ∙ zeros

line_lies : (size : ℕ) (line : RamLine) → IsLine size line → LiesBelow size (content_of line)
line_lies size line l = let inside = l.inside in let count = l.count in λ some. omega arith

pub lines_count : (size : ℕ) (lines : List RamLine) → All (IsLine size) lines → length (ram_by size lines) ≡ size
lines_count size lines are =
    loaded_count size (contents_of lines)
    (All-map (LiesBelow size) content_of lines
    (All-weaker (IsLine size) (λ (line : RamLine). LiesBelow size (content_of line)) (line_lies size) lines are))

-- ---- at the start, and as it was saved

pub starts_can_be_saved : StartsCanBeSaved
unfolding reset_with
starts_can_be_saved opening size whole lie =
    let count = loaded_count size opening.image lie in record {
      one_list = refl;
      whole = ap (λ (n : ℕ). n % 16) count ∙ whole;
      shown = sym count;
      goes = λ h. refl;
    }

saved_goes : (state : RunState) (stopped : Bool) → stopped ≡ is_stopped state → takes_steps state ≡ true
    → state ≡ (if is_off state then Off else if stopped then Stopped else Running)
saved_goes Running stopped e h = rw e refl
saved_goes Stopped stopped e h = rw e refl
saved_goes Halted stopped e h = absurd (cc h)
saved_goes Off stopped e h = absurd (cc h)

pub saved_can_be_saved : SavedCanBeSaved
saved_can_be_saved disk s lawful =
    let count = lines_count s.ram s.lines lawful.lines in
    let units = lawful.ram.2 in record {
      one_list = refl;
      whole = omega arith;
      shown = sym count;
      goes = saved_goes s.state s.cpu.stopped lawful.stopped;
    }

-- ---- the lists of what is kept

abbrev lists : World → ℕ
lists w = length w.kept

found_lists : (rule : Rule) (w : World) (r : Reference) (f : Found) → lists (by_found rule w r f).1 ≡ lists w
found_lists rule w r (found.Entry k mmusr) = length-set w.kept (rule.class_of r.code k.page) _
found_lists rule w r found.Invalid = refl
found_lists rule w r found.BusError = refl

settled_lists : (rule : Rule) (w : World) (r : Reference) (s : Settled) → lists (by_settled rule w r s).1 ≡ lists w
settled_lists rule w r (To at) = refl
settled_lists rule w r Refused = refl
settled_lists rule w r Unsettled = let s = search_for w r in found_lists rule (record w { ram = s.ram }) r s.found

translated_lists : (rule : Rule) (r : Reference) (w : World) → lists (translated rule r w).1 ≡ lists w
unfolding translated
translated_lists rule r w = settled_lists rule w r (settled rule w.mmu w.kept r)

flushed_lists : (what : Flush) (kept : KeptLists) → length (flushed what kept) ≡ length kept
flushed_lists what kept = length-map kept (flushed_in what)

movec_lists : (forgets : Bool) (kept : KeptLists) → length (if forgets then flushed flush.All kept else kept) ≡ length kept
movec_lists true kept = flushed_lists flush.All kept
movec_lists false kept = refl

ptest_lists : (big : Bool) (space : Space) (page : ℕ) (kept : KeptLists) → length (after_ptest big space page kept) ≡ length kept
ptest_lists false space page kept = flushed_lists (flush.Page space page) kept
ptest_lists true space page kept =
    flushed_lists (flush.Page space (other_half page)) (flushed (flush.Page space page) kept) ∙ flushed_lists (flush.Page space page) kept

tested_lists : (w : World) (space : Space) (page : ℕ) (write : Bool) (o : Option Bool) → lists (tested_by w space page write o).1 ≡ lists w
tested_lists w space page write (Some protected) = refl
tested_lists w space page write None = ptest_lists (has_big_pages w.mmu) space page w.kept

same_lists : (before after : KeptLists) → after ≡ before → length after ≡ length before
same_lists before after e = ap (λ (kept : KeptLists). length kept) e

bus_lists : (rule : Rule) (c : Call) (w : World) → lists (bus_of rule c w).1 ≡ lists w
bus_lists rule (Fetch space at) w = same_lists _ _ (calls_stand_beneath rule (Fetch space at) w).kept ∙ translated_lists rule (fetching_of space at) w
bus_lists rule (Read space p) w = same_lists _ _ (calls_stand_beneath rule (Read space p) w).kept ∙ translated_lists rule (reading_of space p.at) w
bus_lists rule (Write space p value) w =
    same_lists _ _ (calls_stand_beneath rule (Write space p value) w).kept ∙ translated_lists rule (writing_of space p.at) w
bus_lists rule (ReadLine space at) w = same_lists _ _ (calls_stand_beneath rule (ReadLine space at) w).kept ∙ translated_lists rule (reading_of space at) w
bus_lists rule (WriteLine space at line) w =
    same_lists _ _ (calls_stand_beneath rule (WriteLine space at line) w).kept ∙ translated_lists rule (writing_of space at) w
bus_lists rule (Probe space p) w = same_lists _ _ (calls_stand_beneath rule (Probe space p) w).kept ∙ translated_lists rule (writing_of space p.at) w
bus_lists rule (Get place) w = same_lists _ _ (places_stand_beneath rule place 0 w).0.kept
bus_lists rule (Put place value) w = same_lists _ _ (places_stand_beneath rule place value w).1.kept
bus_lists rule ReadMmu w = refl
bus_lists rule (SetMmu which value) w = movec_lists (rule.forgets which) w.kept
bus_lists rule (FlushKept what) w = flushed_lists what w.kept
bus_lists rule (Test space at write) w = tested_lists w space (page_of at) write (matched false w.mmu space (page_of at))
bus_lists rule ResetDevices w = refl

pub runs_keep_lists : RunsKeepLists
runs_keep_lists rule = runs_leave lists rule (bus_lists rule) (λ script m. refl)

-- ---- where a run comes

one_by_count : (kept : KeptLists) → length kept ≡ 1 → kept ≡ list_of 0 kept ∷ []
one_by_count [] h = absurd (omega arith)
one_by_count (list ∷ []) h = refl
one_by_count (list ∷ other ∷ more) h = absurd (omega arith)

pub runs_can_be_saved : RunsCanBeSaved
runs_can_be_saved rule script n m c =
    let size = runs_leave_the_size rule script n m in
    let count : length m.world.kept ≡ 1 = same_lists _ _ c.one_list in record {
      one_list = one_by_count (run_of rule script n m).world.kept (runs_keep_lists rule script n m ∙ count);
      whole = ap (λ (k : ℕ). k % 16) size ∙ c.whole;
      shown = ap (λ (build : ℕ × Bool). build.0) (built-run rule script n m) ∙ c.shown ∙ sym size;
      goes = runs_are_going rule script n m c.goes;
    }
