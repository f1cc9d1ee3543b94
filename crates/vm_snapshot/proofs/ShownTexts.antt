-- What is written of guests of which a snapshot can be written is one, and it says these.
use Rattle.std.proofs.Common.{◌≡◌, ◌∙◌, ℕ, zero, suc, ◌+◌, ◌*◌, ◌/◌, ◌<◌, ◌==◌, Bool, true, false, List, [], ◌∷◌, ◌++◌, length, map, refl, ap, sym, append_assoc, arith}
use Rattle.std.specs.Prelude.{All, Option, Some, None, IfSome, Ok, Err, codes, decimal, option_map, pred, replicate}
use Rattle.std.specs.Int.{from_bool}
use Rattle.std.proofs.lemmas.List.{length-map}
use Rattle.std.proofs.lemmas.List.Elements.{All-head, All-tail, recursion_from_All}
use Rattle.mb_saved.specs.declared.line.RamLine.{RamLine}
use Rattle.mb_saved.specs.Saved.{Saved}
use Rattle.mb_script.specs.Script.{Entries}
use Rattle.mb_spelling.specs.Ends.{LawfulChain, LawfulOption, write_chain, write_option}
use Rattle.mb_spelling.specs.Decimals.{from_to}
use Rattle.mb_spelling.specs.Places.{read_whole}
use Rattle.mb_spelling.proofs.Places.{reads_to_the_end}
use Rattle.mb_walk.specs.Memory.{with_contents}
use Rattle.mb_report.specs.Text.{count_line, outcome_text}
use Rattle.vm_disk.specs.Disk.{DiskState, blocks_in, zeros}
use Rattle.vm_snapshot.specs.Fronts.{disk_of}
use Rattle.mb_saved.specs.Lines as saving
use Rattle.mb_saved.specs.Lines.{contents_of, first_lines}
use Rattle.vm_snapshot.specs.Guests.{Disk, Guest, boards, guests, snapshot}
use Rattle.vm_snapshot.specs.Inputs.{MOST}
use Rattle.vm_snapshot.specs.Memories.{rows_of}
use Rattle.vm_snapshot.specs.Plans as plans
use Rattle.vm_snapshot.specs.Plans.{IsAnswer, IsRead, Plan, plan_of, plan_seen, state_of}
use Rattle.vm_snapshot.specs.Runs.{entries_of, lines_of}
use Rattle.vm_snapshot.specs.Shown.{CanBeTold, GuestsAreTold, HasBlocks, ShownGuest, TextsSayOnePlan, guests_text, saved_in, snapshot_text, told}
use Rattle.vm_snapshot.specs.Texts.{above, disk_lines, front_text}
use Rattle.vm_snapshot.specs.declared.plan.SnapFault.TheVariants.{Memory, Line}
use Rattle.vm_snapshot.specs.declared.plan.SnapGuest.{SnapGuest}
use Rattle.vm_snapshot.proofs.Fronts.{disks_are_written, fronts_are_written}
use Rattle.vm_snapshot.proofs.Guests.{snapshot_spells}
use Rattle.vm_snapshot.proofs.Outcomes.{glue, named_text, outcomes_are_written}
use Rattle.vm_snapshot.proofs.Runs.{lines_say}
use Rattle.mb_saved.proofs.Lines.{memory_is_given_back}
use Rattle.vm_snapshot.proofs.SavedLines.{rows_are_lines}
use Rattle.vm_snapshot.proofs.ShownGuests.{address_values_are, data_values_are, disk_lawful, front_lawful, front_of, guest_lawful, guest_of, in_from, kib_of, whole}

-- ---- the text

-- a guest, and its disk if it has one
abbrev pair_of : ShownGuest → Guest × Option Disk
pair_of g = (guest_of g, option_map disk_of g.disk)

disk_written : (i : ℕ) (o : Option DiskState) → IfSome o HasBlocks
    → write_option (guests.extra i) (option_map disk_of o) ≡ disk_lines i o
disk_written i None h = refl
disk_written i (Some d) h = disks_are_written i d h.disk (recursion_from_All (λ (b : ℕ). b < 256) d.buffer h.buffer)

option_lawful : (i : ℕ) (o : Option DiskState) → IfSome o HasBlocks → LawfulOption (guests.extra i) (option_map disk_of o)
option_lawful i None h = tt
option_lawful i (Some d) h = disk_lawful i d h

guest_written : (i : ℕ) (g : ShownGuest) → CanBeTold g
    → (guests.item i).write (guest_of g) ≡ front_text (kib_of g.seen) g.kept (lines_of (above g.seen.steps g.script)) ++ outcome_text i g.seen
guest_written i g t =
    let P = λ (b : ℕ). b < 256 in
    let size = whole g t in
    glue _ _ _ _ (fronts_are_written (front_of g) (front_lawful g t))
    (outcomes_are_written i (front_of g) g.seen (record {
      size = omega arith;
      console = recursion_from_All P g.seen.console t.widths.console;
      queue = recursion_from_All P g.seen.queue t.widths.queue;
    }))

regroup : (a b c d : List ℕ) → (a ++ b) ++ (c ++ d) ≡ (a ++ (b ++ c)) ++ d
regroup a b c d = sym (append_assoc (a ++ b) c d) ∙ ap (λ (w : List ℕ). w ++ d) (append_assoc a b c)

chain_written : (i : ℕ) (list : List ShownGuest) → All CanBeTold list → write_chain guests i (map pair_of list) ≡ guests_text i list
chain_written i [] h = refl
chain_written i (g ∷ list) h =
    let t = All-head CanBeTold g list h in
    glue _ _ _ _ (guest_written i g t)
    (glue _ _ _ _ (disk_written i g.disk t.disk) (chain_written (i + 1) list (All-tail CanBeTold g list h)))
    ∙ regroup (front_text (kib_of g.seen) g.kept (lines_of (above g.seen.steps g.script))) (outcome_text i g.seen)
    (disk_lines i g.disk) (guests_text (i + 1) list)

chain_lawful : (more i : ℕ) (list : List ShownGuest) → length list ≡ suc more → All CanBeTold list → LawfulChain guests more i (map pair_of list)
chain_lawful more i [] e h = absurd (omega arith)
chain_lawful zero i (g ∷ []) e h =
    let t = All-head CanBeTold g [] h in (guest_lawful i g t, option_lawful i g.disk t.disk)
chain_lawful zero i (g ∷ other ∷ list) e h = absurd (omega arith)
chain_lawful (suc more) i (g ∷ list) e h =
    let t = All-head CanBeTold g list h in
    (guest_lawful i g t, option_lawful i g.disk t.disk, chain_lawful more (i + 1) list (omega arith) (All-tail CanBeTold g list h))

-- ---- what it says

abbrev with_parts : List ℕ → List ℕ → ℕ → List RamLine → Saved → Saved
with_parts d a ram lines s = record s { ram = ram; cpu = record s.cpu { regs = record s.cpu.regs { d = d; a = a } }; lines = lines }

saved_is : (g : ShownGuest) → CanBeTold g → plans.saved_of (guest_of g) ≡ saved_in g.kept g.seen
saved_is g t =
    let seen = g.seen in
    let s = saved_in g.kept seen in
    let rows = 64 * kib_of seen in
    let size = whole g t in
    let d : (guest_of g).registers.data_values ≡ seen.cpu.regs.d = data_values_are seen t.widths in
    let a : (guest_of g).registers.address_values ≡ seen.cpu.regs.a = address_values_are seen t.widths in
    let lines : rows_of 0 rows seen.ram ≡ saving.lines_of seen.ram =
    rows_are_lines rows seen.ram ∙ ap (first_lines seen.ram) (let e : rows ≡ length seen.ram / 16 = omega arith in e) in
    ap (λ (l : List ℕ). with_parts l (guest_of g).registers.address_values (1024 * kib_of seen) (rows_of 0 rows seen.ram) s) d
    ∙ ap (λ (l : List ℕ). with_parts seen.cpu.regs.d l (1024 * kib_of seen) (rows_of 0 rows seen.ram) s) a
    ∙ ap (λ (n : ℕ). with_parts seen.cpu.regs.d seen.cpu.regs.a n (rows_of 0 rows seen.ram) s) size
    ∙ ap (λ (l : List RamLine). with_parts seen.cpu.regs.d seen.cpu.regs.a (length seen.ram) l s) lines

flag_back : (b : Bool) → (from_bool b == 1) ≡ b
flag_back true = refl
flag_back false = refl

abbrev with_bytes : DiskState → List ℕ → Bool → DiskState
with_bytes d bytes refused = record d { bytes = bytes; refused = refused }

disk_is : (d : DiskState) → HasBlocks d → state_of (disk_of d) ≡ d
unfolding zeros
disk_is d h =
    let size = h.disk.whole in
    let rows = 32 * blocks_in d in
    let row_count : rows ≡ length d.bytes / 16 = omega arith in
    let lines : rows_of 0 rows d.bytes ≡ saving.lines_of d.bytes = rows_are_lines rows d.bytes ∙ ap (first_lines d.bytes) row_count in
    let bytes : with_contents (replicate (512 * blocks_in d) 0) (contents_of (rows_of 0 rows d.bytes)) ≡ d.bytes =
    ap (λ (l : List RamLine). with_contents (replicate (512 * blocks_in d) 0) (contents_of l)) lines
    ∙ ap (λ (n : ℕ). with_contents (replicate n 0) (contents_of (saving.lines_of d.bytes))) (sym size)
    ∙ memory_is_given_back d.bytes (omega arith) in
    ap (λ (l : List ℕ). with_bytes d l (from_bool d.refused == 1)) bytes ∙ ap (with_bytes d d.bytes) (flag_back d.refused)

disks_are : (o : Option DiskState) → IfSome o HasBlocks → option_map state_of (option_map disk_of o) ≡ o
disks_are None h = refl
disks_are (Some d) h = ap Some (disk_is d h)

abbrev guest_with : Saved → Entries → Option DiskState → SnapGuest
guest_with saved script disk = record { saved = saved; script = script; disk = disk }

guest_is : (g : ShownGuest) → CanBeTold g → plans.guest_of (pair_of g) ≡ told g
guest_is g t =
    let left = above g.seen.steps g.script in
    let disk = option_map state_of (option_map disk_of g.disk) in
    ap (λ (s : Saved). guest_with s (entries_of (lines_of left)) disk) (saved_is g t)
    ∙ ap (λ (es : Entries). guest_with (saved_in g.kept g.seen) es disk) (lines_say left)
    ∙ ap (guest_with (saved_in g.kept g.seen) left) (disks_are g.disk t.disk)

guests_are : (list : List ShownGuest) → All CanBeTold list → map plans.guest_of (map pair_of list) ≡ map told list
guests_are [] h = refl
guests_are (g ∷ list) h =
    ap (λ (s : SnapGuest). s ∷ map plans.guest_of (map pair_of list)) (guest_is g (All-head CanBeTold g list h))
    ∙ ap (λ (l : List SnapGuest). told g ∷ l) (guests_are list (All-tail CanBeTold g list h))

-- ---- the whole

grouped : (a b c d e : List ℕ) → (a ++ b) ++ (c ++ (d ++ e)) ≡ (((a ++ b) ++ c) ++ d) ++ e
grouped a b c d e = sym (append_assoc (a ++ b) c (d ++ e)) ∙ sym (append_assoc ((a ++ b) ++ c) d e)

abbrev plan_with : ℕ → ℕ → List SnapGuest → Plan
plan_with board slice guests = record { board = board; slice = slice; guests = guests }

written : (board slice : ℕ) (list : List ShownGuest) → All CanBeTold list
    → snapshot.write (record { board = board; slice = slice; guests = map pair_of list }) ≡ snapshot_text board slice list
written board slice list h =
    let pairs = map pair_of list in
    glue _ _ _ _ (ap (λ (w : List ℕ). codes "snapshot 1\n" ++ w) (named_text (codes "board") boards board))
    (glue _ _ _ _ (named_text (codes "slice") (from_to 1 MOST) slice)
    (ap (λ (n : ℕ). codes "guests " ++ ((decimal n ++ 10 ∷ []) ++ write_chain guests 1 pairs)) (length-map list pair_of)
    ∙ ap (λ (w : List ℕ). codes "guests " ++ ((decimal (length list) ++ 10 ∷ []) ++ w)) (chain_written 1 list h)))
    ∙ grouped (codes "snapshot 1\n") (count_line (codes "board") board) (count_line (codes "slice") slice) (count_line (codes "guests") (length list))
    (guests_text 1 list)

pub guests_are_told : GuestsAreTold
guests_are_told board slice list h =
    let pairs = map pair_of list in
    let count : length pairs ≡ length list = length-map list pair_of in
    let more : length list ≡ suc (pred (length pairs)) = (let some = h.some in omega arith) in
    let seats = in_from (from_to 1 16) (length pairs) (let some = h.some in omega arith) (let most = h.seats in omega arith) (omega arith) in
    record {
      says = record { board = board; slice = slice; guests = pairs };
      lawful = (
        in_from boards board h.least h.most h.units,
        (in_from (from_to 1 MOST) slice h.turns h.few (omega arith), (tt, (seats, chain_lawful (pred (length pairs)) 1 list more h.told))),
      );
      written = written board slice list h.told;
      is_plan = ap (λ (l : List SnapGuest). plan_with board slice l) (guests_are list h.told);
    }

same_plan : (text : List ℕ) (p q : Plan) → IsRead text p → IsRead text q → p ≡ q
same_plan text p q a b =
    let whole = reads_to_the_end snapshot snapshot_spells in
    let same : Ok a.says ≡ Ok b.says =
    sym (whole.back a.says a.lawful) ∙ ap (read_whole snapshot) (a.written ∙ sym b.written) ∙ whole.back b.says b.lawful in
    let says : a.says ≡ b.says = cc in
    sym a.is_plan ∙ ap plan_of says ∙ b.is_plan

pub texts_say_one_plan : TextsSayOnePlan
texts_say_one_plan text plan (Ok given) read answer = (same_plan text (plan_seen given) plan answer read, tt)
texts_say_one_plan text plan (Err Memory) read answer = (tt, refl)
texts_say_one_plan text plan (Err (Line number)) read answer = absurd (answer.unfinished read.says read.lawful read.written)
