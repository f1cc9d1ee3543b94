-- A dump is written in rows.
use Rattle.std.proofs.Common.{◌≡◌, ℕ, zero, suc, ◌+◌, ◌-◌, ◌*◌, ◌/◌, ◌%◌, ◌^◌, ◌<◌, eqb, Bool, true, false, ◌||◌, List, [], ◌∷◌, ◌++◌, length, take, drop, refl, sym, ap, ◌∙◌, append_assoc, arith}
use Rattle.std.proofs.lemmas.Bool.{ne_eqb, or_right, or_from}
use Rattle.std.proofs.lemmas.List.{append-nil, length-drop, drop-drop}
use Rattle.mb_spelling.specs.Spelling.{before, chosen}
use Rattle.mb_spelling.specs.Hex.{hex_digit, hex_of}
use Rattle.mb_spelling.specs.Lists.{write_times}
use Rattle.vm_snapshot.specs.Inputs.{byte}
use Rattle.vm_snapshot.specs.Memory.{AreBytes, dump_byte, next_column}
use Rattle.mb_report.specs.Digits.{hex2, digits}
use Rattle.mb_report.specs.Text.{first_rows, dump_line}
use Rattle.vm_snapshot.specs.Dumps.{DumpsAreRows}

-- what is written from a column on
abbrev text : (n column : ℕ) → List ℕ → List ℕ
text n column bytes = write_times dump_byte next_column n column bytes

pub byte_text : (b : ℕ) → b < 256 → hex_of 2 b ≡ hex2 b
byte_text b small =
    let high : b / 16 ^ 1 % 16 ≡ b / 16 = omega arith in
    let low : b / 16 ^ 0 % 16 ≡ b % 16 = omega arith in
    ap (λ (d : ℕ). hex_digit d ∷ hex_digit (b / 16 ^ 0 % 16) ∷ []) high ∙ ap (λ (d : ℕ). hex_digit (b / 16) ∷ hex_digit d ∷ []) low

-- a byte that ends its row, and one that does not
ends_row : (ends : Bool) (b : ℕ) → ends ≡ true → (chosen ends (before byte (10 ∷ [])) byte).write b ≡ hex_of 2 b ++ 10 ∷ []
ends_row true b e = refl
ends_row false b e = absurd (let contrary : false ≡ true = e in cc)

stays_in_row : (ends : Bool) (b : ℕ) → ends ≡ false → (chosen ends (before byte (10 ∷ [])) byte).write b ≡ hex_of 2 b
stays_in_row true b e = absurd (let contrary : true ≡ false = e in cc)
stays_in_row false b e = refl

byte_ends : (n column b : ℕ) → (eqb n 0 || eqb column 31) ≡ true → b < 256 → (dump_byte n column).write b ≡ hex2 b ++ 10 ∷ []
byte_ends n column b e small = ends_row (eqb n 0 || eqb column 31) b e ∙ ap (λ (w : List ℕ). w ++ 10 ∷ []) (byte_text b small)

byte_stays : (n column b : ℕ) → (eqb n 0 || eqb column 31) ≡ false → b < 256 → (dump_byte n column).write b ≡ hex2 b
byte_stays n column b e small = stays_in_row (eqb n 0 || eqb column 31) b e ∙ byte_text b small

row_text : (k n column : ℕ) (bytes : List ℕ) → length bytes ≡ n → 0 < n → column + suc k ≡ 32 → AreBytes bytes
    → text n column bytes ≡ (digits (take (suc k) bytes) ++ 10 ∷ []) ++ text (n - suc k) 0 (drop (suc k) bytes)
row_text k n column [] len some room h = absurd (omega arith)
row_text k zero column (b ∷ bytes) len some room h = absurd (omega arith)
row_text zero (suc n) column (b ∷ bytes) len some room h =
    let last : column ≡ 31 = omega arith in
    let wrapped : (column + 1) % 32 ≡ 0 = omega arith in
    let rest : suc n - 1 ≡ n = omega arith in
    let ends : (eqb n 0 || eqb column 31) ≡ true = or_right (eqb n 0) (eqb column 31) (rw last refl) in
    ap (λ (w : List ℕ). w ++ text n ((column + 1) % 32) bytes) (byte_ends n column b ends h.0)
    ∙ (ap (λ (c : ℕ). (hex2 b ++ 10 ∷ []) ++ text n c bytes) wrapped ∙ ap (λ (m : ℕ). (hex2 b ++ 10 ∷ []) ++ text m 0 bytes) (sym rest))
row_text (suc k) (suc zero) column (b ∷ []) len some room h =
    let none : 1 - suc (suc k) ≡ 0 = omega arith in
    ap (λ (w : List ℕ). w ++ []) (byte_ends 0 column b refl h.0) ∙ ap (λ (m : ℕ). (hex2 b ++ 10 ∷ []) ++ text m 0 []) (sym none)
row_text (suc k) (suc zero) column (b ∷ c ∷ bytes) len some room h = absurd (omega arith)
row_text (suc k) (suc (suc n)) column (b ∷ bytes) len some room h =
    let inside : (eqb (suc n) 0 || eqb column 31) ≡ false =
    or_from (eqb (suc n) 0) (eqb column 31) (ne_eqb (suc n) 0 (λ e. omega arith)) (ne_eqb column 31 (λ e. omega arith)) in
    let next : (column + 1) % 32 ≡ column + 1 = omega arith in
    let later = row_text k (suc n) (column + 1) bytes (omega arith) (omega arith) (omega arith) h.1 in
    let rest : suc n - suc k ≡ suc (suc n) - suc (suc k) = omega arith in
    ap (λ (w : List ℕ). w ++ text (suc n) ((column + 1) % 32) bytes) (byte_stays (suc n) column b inside h.0)
    ∙ (ap (λ (c : ℕ). hex2 b ++ text (suc n) c bytes) next
    ∙ (ap (λ (w : List ℕ). hex2 b ++ w) later
    ∙ ap (λ (m : ℕ). hex2 b ++ ((digits (take (suc k) bytes) ++ 10 ∷ []) ++ text m 0 (drop (suc k) bytes))) rest))

-- ---- rows from the front

front : (c : ℕ) (bytes : List ℕ)
    → first_rows dump_line 32 bytes (suc c) ≡ (digits (take 32 bytes) ++ 10 ∷ []) ++ first_rows dump_line 32 (drop 32 bytes) c
front zero bytes = sym (append-nil (digits (take 32 bytes) ++ 10 ∷ []))
front (suc c) bytes =
    let row = digits (take 32 bytes) ++ 10 ∷ [] in
    let others = first_rows dump_line 32 (drop 32 bytes) c in
    let place : drop (32 * suc c) bytes ≡ drop (32 * c) (drop 32 bytes) =
    ap (λ (n : ℕ). drop n bytes) (let e : 32 * suc c ≡ 32 + 32 * c = omega arith in e) ∙ sym (drop-drop (32 * c) 32 bytes) in
    ap (λ (w : List ℕ). w ++ dump_line (32 * suc c) (take 32 (drop (32 * suc c) bytes))) (front c bytes)
    ∙ (ap (λ (l : List ℕ). (row ++ others) ++ (digits (take 32 l) ++ 10 ∷ [])) place
    ∙ append_assoc row others (digits (take 32 (drop (32 * c) (drop 32 bytes))) ++ 10 ∷ []))

pub bytes-drop : (n : ℕ) (bytes : List ℕ) → AreBytes bytes → AreBytes (drop n bytes)
bytes-drop zero bytes h = h
bytes-drop (suc n) [] h = tt
bytes-drop (suc n) (b ∷ bytes) h = bytes-drop n bytes h.1

rows_text : (c : ℕ) (bytes : List ℕ) → (length bytes + 31) / 32 ≡ c → AreBytes bytes → text (length bytes) 0 bytes ≡ first_rows dump_line 32 bytes c
rows_text zero [] few h = refl
rows_text zero (b ∷ bytes) few h = absurd (omega arith)
rows_text (suc c) bytes few h =
    let some : 0 < length bytes = omega arith in
    let long = length-drop 32 bytes in
    let rest : length bytes - 32 ≡ length (drop 32 bytes) = sym long in
    let row = digits (take 32 bytes) ++ 10 ∷ [] in
    row_text 31 (length bytes) 0 bytes refl some refl h
    ∙ (ap (λ (n : ℕ). row ++ text n 0 (drop 32 bytes)) rest
    ∙ (ap (λ (w : List ℕ). row ++ w) (rows_text c (drop 32 bytes) (omega arith) (bytes-drop 32 bytes h)) ∙ sym (front c bytes)))

pub dumps_are_rows : DumpsAreRows
dumps_are_rows bytes h = rows_text ((length bytes + 31) / 32) bytes refl h
