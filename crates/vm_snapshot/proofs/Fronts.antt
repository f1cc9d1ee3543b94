-- The lines before an outcome, and those of a disk, are written as the grammar has them.
use Rattle.std.proofs.Common.{◌≡◌, ℕ, zero, suc, ◌*◌, ◌/◌, ◌^◌, ◌<◌, Bool, true, false, List, [], ◌∷◌, ◌++◌, length, drop, refl, sym, ap, ◌∙◌, append_assoc, arith}
use Rattle.std.specs.Prelude.{codes, decimal}
use Rattle.std.specs.List.{flat_map}
use Rattle.std.specs.Int.{from_bool}
use Rattle.mb_port.specs.declared.types.Space.{Space}
use Rattle.mb_port.specs.declared.types.Space.TheVariants.{User, Super}
use Rattle.mb_model.specs.declared.kept.Kept.{Kept}
use Rattle.mb_report.specs.Digits.{digits, hex2}
use Rattle.mb_report.specs.Kept as report
use Rattle.mb_report.specs.Text.{all_rows, count_line, dump_line, memory_text}
use Rattle.mb_spelling.specs.Hex.{any_number, masked, hex_digit, hex_of}
use Rattle.mb_spelling.specs.Lists.{LawfulTimes, LawfulUntil, write_times, write_until}
use Rattle.vm_disk.specs.Disk.{blocks_in}
use Rattle.vm_disk.specs.Text.{heading, long_line}
use Rattle.vm_snapshot.specs.Inputs.{InputLine, Due, Bytes, Abort, SoFar, at_first, behind_line, pairs, some_pairs, due_of, input_line, room_of}
use Rattle.vm_snapshot.specs.Memory.{dump}
use Rattle.vm_snapshot.specs.Pages.{kept_line, with_kept, write_kept, write_space}
use Rattle.vm_snapshot.specs.Guests as guests
use Rattle.vm_snapshot.specs.Texts.{due_text, input_text}
use Rattle.vm_snapshot.specs.Fronts.{FrontsAreWritten, DisksAreWritten}
use Rattle.vm_snapshot.proofs.Dumps.{byte_text, dumps_are_rows}
use Rattle.vm_snapshot.proofs.Memories.{lines_are_memory}
use Rattle.vm_snapshot.proofs.Outcomes.{glue, long_digits, long_text, named_text}

-- ---- what is kept

five : (n : ℕ) → hex_of 5 n ≡ report.hex5 n
five n = ap (drop 3) (long_digits n)

parted : (p q t : List ℕ) → ((p ++ 32 ∷ []) ++ q) ++ t ≡ p ++ (32 ∷ (q ++ t))
parted p q t = append_assoc (p ++ 32 ∷ []) q t ∙ append_assoc p (32 ∷ []) (q ++ t)

spaced : (space : Space) (p q t : List ℕ)
    → write_space space ++ ((32 ∷ p) ++ ((32 ∷ q) ++ t)) ≡ (((report.space_letter space ∷ 32 ∷ [] ++ p) ++ 32 ∷ []) ++ q) ++ t
spaced Super p q t = ap (λ (w : List ℕ). 83 ∷ 32 ∷ w) (sym (parted p q t))
spaced User p q t = ap (λ (w : List ℕ). 85 ∷ 32 ∷ w) (sym (parted p q t))

kept_text : (before : List Kept) (k : Kept) → write_kept before k ≡ report.kept_line k
kept_text before k =
    let flags = 32 ∷ hex_digit (report.flags_of k) ∷ 10 ∷ [] in
    ap (λ (w : List ℕ). write_space k.space ++ ((32 ∷ w) ++ ((32 ∷ hex_of 5 k.frame) ++ flags))) (five k.page)
    ∙ (ap (λ (w : List ℕ). write_space k.space ++ ((32 ∷ report.hex5 k.page) ++ ((32 ∷ w) ++ flags))) (five k.frame)
    ∙ spaced k.space (report.hex5 k.page) (report.hex5 k.frame) flags)

all_kept : (before kept : List Kept) → write_times (λ left kept. kept_line kept) with_kept (length kept) before kept ≡ flat_map report.kept_line kept
all_kept before [] = refl
all_kept before (k ∷ kept) = glue _ _ _ _ (kept_text before k) (all_kept (with_kept before k) kept)

-- ---- input

pairs_text : (most : ℕ) (bytes : List ℕ) → LawfulUntil pairs most tt bytes → write_until pairs tt bytes ≡ digits bytes ++ 10 ∷ []
pairs_text most [] l = refl
pairs_text zero (b ∷ bytes) l = absurd l
pairs_text (suc most) (b ∷ bytes) l =
    let small : b < 256 = (let h : b / 16 ^ 2 ≡ 0 = l.1.0 in omega arith) in
    glue (hex_of 2 b) (hex2 b) _ _ (byte_text b small) (pairs_text most bytes l.2)

some_text : (room : ℕ) (bytes : List ℕ) → (some_pairs room).IsLawful bytes → (some_pairs room).write bytes ≡ digits bytes ++ 10 ∷ []
some_text room [] l = absurd l
some_text room (b ∷ bytes) l =
    let small : b < 256 = (let h : b / 16 ^ 2 ≡ 0 = l.0.0 in omega arith) in
    glue (hex_of 2 b) (hex2 b) _ _ (byte_text b small) (pairs_text _ bytes l.1)

due_written : (room : ℕ) (alone : Bool) (due : Due) → (due_of room alone).IsLawful due → 32 ∷ (due_of room alone).write due ≡ due_text due
due_written room true due l = ap due_text l
due_written room false Abort l = refl
due_written room false (Bytes bytes) l = ap (λ (w : List ℕ). codes " hex " ++ w) (some_text room bytes l)

all_input : (s : SoFar) (lines : List InputLine) → LawfulTimes (λ left s. input_line (room_of left s) s) behind_line (length lines) s lines
    → write_times (λ left s. input_line (room_of left s) s) behind_line (length lines) s lines ≡ flat_map input_text lines
all_input s [] l = refl
all_input s (line ∷ lines) l =
    glue _ _ _ _
    (ap (λ (w : List ℕ). codes "at " ++ w) (append_assoc (decimal line.step) (32 ∷ []) _
    ∙ ap (λ (w : List ℕ). decimal line.step ++ w) (due_written _ _ line.due l.0.1)))
    (all_input (behind_line s line) lines l.1)

-- ---- the lines before the outcome

regroup : (a b c d e : List ℕ) → a ++ ((b ++ c) ++ (d ++ e)) ≡ (((a ++ b) ++ c) ++ d) ++ e
regroup a b c d e =
    sym (append_assoc a (b ++ c) (d ++ e))
    ∙ (ap (λ (w : List ℕ). w ++ (d ++ e)) (sym (append_assoc a b c)) ∙ sym (append_assoc ((a ++ b) ++ c) d e))

pub fronts_are_written : FrontsAreWritten
fronts_are_written first l =
    let kept = all_kept [] first.kept in
    let input = all_input at_first first.input l.1.1.1 in
    glue _ _ _ _ (named_text (codes "ram") guests.rams first.ram)
    (glue _ _ _ _ (ap (λ (w : List ℕ). codes "kept " ++ ((decimal (length first.kept) ++ 10 ∷ []) ++ w)) kept)
    (ap (λ (w : List ℕ). codes "input " ++ ((decimal (length first.input) ++ 10 ∷ []) ++ w)) input))
    ∙ regroup (count_line (codes "ram") first.ram) (count_line (codes "kept") (length first.kept)) (flat_map report.kept_line first.kept)
    (count_line (codes "input") (length first.input)) (flat_map input_text first.input)

-- ---- a disk

grouped : (a b c d e f g : List ℕ) → a ++ (b ++ (c ++ (d ++ (e ++ (f ++ g))))) ≡ (((((a ++ b) ++ c) ++ d) ++ e) ++ f) ++ g
grouped a b c d e f g =
    sym (append_assoc a b _) ∙ (sym (append_assoc (a ++ b) c _) ∙ (sym (append_assoc ((a ++ b) ++ c) d _)
    ∙ (sym (append_assoc (((a ++ b) ++ c) ++ d) e _) ∙ sym (append_assoc ((((a ++ b) ++ c) ++ d) ++ e) f g))))

heading_text : (i blocks : ℕ) (rest : List ℕ)
    → ((codes "disk " ++ (decimal i ++ codes " blocks ")) ++ (decimal blocks ++ 10 ∷ [])) ++ rest ≡ heading i blocks ++ rest
heading_text i blocks rest =
    ap (λ (w : List ℕ). codes "disk " ++ (w ++ rest))
    (sym (append_assoc (decimal i ++ codes " blocks ") (decimal blocks) (10 ∷ [])))

pub disks_are_written : DisksAreWritten
disks_are_written i d is h =
    let buffer : (dump 512).write d.buffer ≡ all_rows dump_line 32 d.buffer =
    ap (λ (n : ℕ). (dump n).write d.buffer) (sym is.buffer) ∙ dumps_are_rows d.buffer h in
    let memory = lines_are_memory (32 * blocks_in d) d.bytes (let e = is.whole in omega (arith, e)) in
    heading_text i (blocks_in d) _
    ∙ glue (heading i (blocks_in d)) _ _ _ refl
    (glue _ _ _ _ (long_text (codes "BLOCK") any_number d.block)
    (glue _ _ _ _ (long_text (codes "RESULT") guests.bit (from_bool d.refused))
    (glue _ _ _ _ (long_text (codes "POSITION") (masked 0x1FC) d.position) (glue _ _ _ _ buffer memory))))
    ∙ grouped (heading i (blocks_in d)) (long_line (codes "BLOCK") d.block) (long_line (codes "RESULT") (from_bool d.refused))
    (long_line (codes "POSITION") d.position) (all_rows dump_line 32 d.buffer) (memory_text d.bytes) (codes "end\n")
