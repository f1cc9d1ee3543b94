-- The outcome text within a guest's lines.
use Rattle.std.proofs.Common.{◌≡◌, ℕ, ◌/◌, ◌%◌, ◌^◌, List, [], ◌∷◌, ◌++◌, length, refl, sym, ap, ◌∙◌, append_assoc, arith}
use Rattle.std.specs.Prelude.{codes, decimal}
use Rattle.std.specs.List.{flat_map}
use Rattle.std.specs.Int.{byte_at}
use Rattle.std.proofs.lemmas.List.{append-nil}
use Rattle.std.proofs.lemmas.Grind.{flat_map-append}
use Rattle.mb_model.specs.declared.outcome.RunState.{RunState}
use Rattle.mb_model.specs.declared.outcome.RunState.TheVariants.{Running, Stopped, Halted, Off}
use Rattle.mb_model.specs.Seen.{Seen}
use Rattle.mb_report.specs.Digits.{hex8}
use Rattle.mb_report.specs.Text.{Shown, number, long, word, line_text, head_lines, register_lines, device_lines, lines_of, state_word, all_rows, dump_line, memory_text}
use Rattle.mb_spelling.specs.Hex.{May, any_number, hex_of}
use Rattle.mb_spelling.specs.Decimals.{Range}
use Rattle.vm_snapshot.specs.Inputs.{InputLine}
use Rattle.vm_snapshot.specs.Memory.{AreBytes, dump}
use Rattle.vm_snapshot.specs.Guests as guests
use Rattle.vm_snapshot.specs.Outcomes.{progress_of, registers_of, devices_of, OutcomesAreWritten}
use Rattle.vm_snapshot.proofs.Dumps.{dumps_are_rows}
use Rattle.vm_snapshot.proofs.Memories.{lines_are_memory}
use Rattle.vm_snapshot.proofs.Numbers.{digit_same}

abbrev Line : Type 0
Line = List ℕ × Shown

-- lines, and a text behind them
lines_then : List Line → List ℕ → List ℕ
lines_then [] rest = rest
lines_then (line ∷ lines) rest = line_text line ++ lines_then lines rest

flat_then : (lines : List Line) (rest : List ℕ) → flat_map line_text lines ++ rest ≡ lines_then lines rest
unfolding lines_then
flat_then [] rest = refl
flat_then (line ∷ lines) rest =
    append_assoc (line_text line) (flat_map line_text lines) rest ∙ ap (λ (w : List ℕ). line_text line ++ w) (flat_then lines rest)

-- ---- lines with a name

pub long_digits : (n : ℕ) → hex_of 8 n ≡ hex8 n
unfolding hex8
long_digits n =
    digit_same (n / 16 ^ 7 % 16) (byte_at 3 n / 16) _ _ (omega arith)
    (digit_same (n / 16 ^ 6 % 16) (byte_at 3 n % 16) _ _ (omega arith)
    (digit_same (n / 16 ^ 5 % 16) (byte_at 2 n / 16) _ _ (omega arith)
    (digit_same (n / 16 ^ 4 % 16) (byte_at 2 n % 16) _ _ (omega arith)
    (digit_same (n / 16 ^ 3 % 16) (byte_at 1 n / 16) _ _ (omega arith)
    (digit_same (n / 16 ^ 2 % 16) (byte_at 1 n % 16) _ _ (omega arith)
    (digit_same (n / 16 ^ 1 % 16) (byte_at 0 n / 16) _ _ (omega arith)
    (digit_same (n / 16 ^ 0 % 16) (byte_at 0 n % 16) _ _ (omega arith) refl)))))))

pub long_text : (name : List ℕ) (may : May) (n : ℕ) → (guests.long name may).write n ≡ line_text (name, long n)
long_text name may n =
    sym (append_assoc (name ++ 32 ∷ []) (hex_of 8 n) (10 ∷ [])) ∙ ap (λ (w : List ℕ). ((name ++ 32 ∷ []) ++ w) ++ 10 ∷ []) (long_digits n)

pub named_text : (name : List ℕ) (r : Range) (n : ℕ) → (guests.named name r).write n ≡ line_text (name, number n)
named_text name r n = sym (append_assoc (name ++ 32 ∷ []) (decimal n) (10 ∷ []))

-- the lines of registers
long_lines : List (List ℕ × May) → List ℕ → List Line
long_lines [] values = []
long_lines (field ∷ fields) [] = []
long_lines (field ∷ fields) (value ∷ values) = (field.0, long value) ∷ long_lines fields values

longs_text : (fields : List (List ℕ × May)) (values rest : List ℕ) → length fields ≡ length values
    → (guests.longs fields).write values ++ rest ≡ lines_then (long_lines fields values) rest
unfolding lines_then long_lines
longs_text [] [] rest e = refl
longs_text [] (value ∷ values) rest e = absurd (omega arith)
longs_text (field ∷ fields) [] rest e = absurd (omega arith)
longs_text ((name, may) ∷ fields) (value ∷ values) rest e =
    append_assoc ((guests.long name may).write value) ((guests.longs fields).write values) rest
    ∙ (ap (λ (w : List ℕ). w ++ ((guests.longs fields).write values ++ rest)) (long_text name may value)
    ∙ ap (λ (w : List ℕ). line_text (name, long value) ++ w) (longs_text fields values rest (omega arith)))

-- ---- the first two lines

regroup : (d a w x : List ℕ) → ((d ++ 10 ∷ a) ++ w) ++ x ≡ (d ++ 10 ∷ []) ++ ((a ++ w) ++ x)
regroup d a w x =
    ap (λ (l : List ℕ). l ++ x) (append_assoc d (10 ∷ a) w)
    ∙ (append_assoc d (10 ∷ (a ++ w)) x ∙ sym (append_assoc d (10 ∷ []) ((a ++ w) ++ x)))

state_text : (i : ℕ) (state : RunState) (rest : List ℕ)
    → ((codes "guest " ++ (decimal i ++ codes "\nstate ")) ++ guests.states.write state) ++ rest
    ≡ line_text (codes "guest", number i) ++ (line_text (codes "state", word (state_word state)) ++ rest)
state_text i Running rest = ap (λ (w : List ℕ). codes "guest " ++ w) (regroup (decimal i) (codes "state ") (codes "running\n") rest)
state_text i Stopped rest = ap (λ (w : List ℕ). codes "guest " ++ w) (regroup (decimal i) (codes "state ") (codes "stopped\n") rest)
state_text i Halted rest = ap (λ (w : List ℕ). codes "guest " ++ w) (regroup (decimal i) (codes "state ") (codes "halted\n") rest)
state_text i Off rest = ap (λ (w : List ℕ). codes "guest " ++ w) (regroup (decimal i) (codes "state ") (codes "off\n") rest)

-- one part after another
pub glue : (a b x y : List ℕ) → a ≡ b → x ≡ y → a ++ x ≡ b ++ y
glue a b x y e f = ap (λ (w : List ℕ). w ++ x) e ∙ ap (λ (w : List ℕ). b ++ w) f

head_text : (i : ℕ) (input : List InputLine) (seen : Seen) → AreBytes seen.console → AreBytes seen.queue
    → (guests.progress i input).write (progress_of seen) ≡ flat_map line_text (head_lines i seen)
head_text i input seen h k =
    let console : (dump (length seen.console)).write seen.console ≡ all_rows dump_line 32 seen.console = dumps_are_rows seen.console h in
    let queue : (dump (length seen.queue)).write seen.queue ≡ all_rows dump_line 32 seen.queue = dumps_are_rows seen.queue k in
    let last = ap (λ (w : List ℕ). codes "queue " ++ ((decimal (length seen.queue) ++ 10 ∷ []) ++ w)) queue in
    state_text i seen.state _
    ∙ ap (λ (w : List ℕ). line_text (codes "guest", number i) ++ (line_text (codes "state", word (state_word seen.state)) ++ w))
    (glue _ _ _ _ (named_text (codes "steps") (guests.steps_below input) seen.steps)
    (glue _ _ _ _ (ap (λ (w : List ℕ). codes "console " ++ ((decimal (length seen.console) ++ 10 ∷ []) ++ w)) console)
    (glue _ _ _ _ (named_text (codes "lost") guests.counts_64 seen.lost) (last ∙ sym (append-nil _)))))

registers_text : (seen : Seen) → guests.registers.write (registers_of seen) ≡ flat_map line_text (register_lines seen)
unfolding lines_then long_lines
registers_text seen =
    let r = registers_of seen in
    let translation = sym (append-nil _) ∙ longs_text guests.translation_registers r.translation_values [] refl in
    ap (λ (w : List ℕ). (guests.longs guests.data_registers).write r.data_values ++ ((guests.longs guests.address_registers).write r.address_values
    ++ ((guests.longs guests.control_registers).write r.control_values ++ w))) translation
    ∙ (ap (λ (w : List ℕ). (guests.longs guests.data_registers).write r.data_values ++ ((guests.longs guests.address_registers).write r.address_values ++ w))
    (longs_text guests.control_registers r.control_values _ refl)
    ∙ (ap (λ (w : List ℕ). (guests.longs guests.data_registers).write r.data_values ++ w) (longs_text guests.address_registers r.address_values _ refl)
    ∙ (longs_text guests.data_registers r.data_values _ refl
    ∙ (sym (flat_then (register_lines seen) []) ∙ append-nil _))))

devices_text : (seen : Seen) → (guests.devices seen.queue).write (devices_of seen) ≡ flat_map line_text (device_lines seen)
devices_text seen =
    glue _ _ _ _ (long_text (codes "CTRL") guests.bit seen.ctrl)
    (glue _ _ _ _ (long_text (codes "STATUS") (guests.status seen.queue) seen.status)
    (glue _ _ _ _ (long_text (codes "PERIOD") any_number seen.period)
    (glue _ _ _ _ (long_text (codes "COUNT") (guests.count seen.period) seen.count)
    (long_text (codes "PENDING") guests.bit seen.pending ∙ sym (append-nil _)))))

parted : (h r d m : List ℕ) → h ++ (r ++ (d ++ m)) ≡ ((h ++ r) ++ d) ++ m
parted h r d m = sym (append_assoc h r (d ++ m)) ∙ sym (append_assoc (h ++ r) d m)

pub outcomes_are_written : OutcomesAreWritten
outcomes_are_written i first seen h =
    let head = head_lines i seen in
    let registers = register_lines seen in
    let devices = device_lines seen in
    let ram = lines_are_memory (guests.rows_in first.ram) seen.ram h.size in
    let lines : (flat_map line_text head ++ flat_map line_text registers) ++ flat_map line_text devices ≡ flat_map line_text (lines_of i seen) =
    ap (λ (w : List ℕ). w ++ flat_map line_text devices) (sym (flat_map-append line_text head registers))
    ∙ sym (flat_map-append line_text (head ++ registers) devices) in
    glue _ _ _ _ (head_text i first.input seen h.console h.queue)
    (glue _ _ _ _ (registers_text seen) (glue _ _ _ _ (devices_text seen) ram))
    ∙ (parted (flat_map line_text head) (flat_map line_text registers) (flat_map line_text devices) (memory_text seen.ram ++ codes "end\n")
    ∙ (ap (λ (w : List ℕ). w ++ (memory_text seen.ram ++ codes "end\n")) lines
    ∙ sym (append_assoc (flat_map line_text (lines_of i seen)) (memory_text seen.ram) (codes "end\n"))))
