-- The frame of a board's access error tells what was left to do.
use Rattle.std.proofs.Common.{◌≡◌, ◌∙◌, ◌⊎◌, ℕ, ◌+◌, ◌/◌, ◌%◌, ◌^◌, ◌<◌, ◌≤◌, ◌==◌, List, [], ◌∷◌, ◌++◌, length, refl, ap, sym, subst}
use Rattle.std.proofs.Common.{Bool, true, false, if◌then◌else◌, inl, inr, arith}
use Rattle.std.proofs.lemmas.Bool.{cases_eq}
use Rattle.std.proofs.lemmas.Bool.Decides.{nat_tests}
use Rattle.mb_port.specs.declared.types.Space.{Space}
use Rattle.mb_port.specs.declared.types.Space.TheVariants.{User, Super}
use Rattle.mb_port.specs.declared.types.Fault.{Fault}
use Rattle.mb_port.specs.declared.types.Piece.{Piece}
use Rattle.mb_port.specs.Pieces.{unlaid, span_of, IsPiece}
use Rattle.mb_port.proofs.Laid.{unlaid_laid}
use Rattle.mb_frames.specs.declared.frame.Access.{Access}
use Rattle.mb_frames.specs.declared.pend.Pend.{Pend}
use Rattle.mb_frames.specs.AccessFields.{piece_of, Read, Write, Line, Movem, Check, read_fields, write_fields, line_fields, movem_fields, check_fields}
use Rattle.mb_frames.specs.AccessFields.{access_bits, bit_if, status, writeback_status}
use Rattle.mb_frames.specs.AccessFields.{register_aligned, memory_aligned}
use Rattle.mb_frames.specs.declared.status_bits.TheConstants.{CM, ATC, LK, RW}
use Rattle.def_processor.specs.Return.{continues}
use Rattle.def_runs.specs.Frames.{is_valid, length_in, if_valid, pending_in, left_in}
use Rattle.def_runs.specs.declared.left.LeftOver.{LeftOver}
use Rattle.def_runs.specs.declared.left.LeftOver.TheVariants as left
use Rattle.def_runs.specs.Telling.{IsOwn, AreOwn, FramesTell}
use Rattle.mb_frames.proofs.StatusBits.{access_bits-le, bit_if-le, status-le}

-- pieces that are left, of an operand
abbrev written : List Pend → ℕ → LeftOver
written pieces first = left.Writes (record { items = pieces }) first

-- ---- bits

no_cm : (ssw : ℕ) → ssw < 4096 → (ssw / 2 ^ 12 % 2 == 1) ≡ false
no_cm ssw h = grind (arith, nat_tests)

has_cm : (ssw : ℕ) → 4096 ≤ ssw → ssw < 8192 → (ssw / 2 ^ 12 % 2 == 1) ≡ true
has_cm ssw h k = grind (arith, nat_tests)

-- ---- lengths

lengths : (p : Piece) → IsPiece p → (p.len ≡ 1) ⊎ ((p.len ≡ 2) ⊎ (p.len ≡ 4))
lengths p h = let a = h.0 in let b = h.1 in let c = h.2 in elim (cases_eq p.len 1) [
  | inl e ↦ inl e
  | inr e ↦ elim (cases_eq p.len 2) [
    | inl f ↦ inr (inl f)
    | inr f ↦ inr (inr (omega arith))
  ]
]

pub record Valid (space : Space) (len : ℕ) : Type 0 where
  pub valid : is_valid (writeback_status space len) ≡ true
  pub length : length_in (writeback_status space len) ≡ len

valid_1 : (space : Space) → Valid space 1
valid_1 User = record { valid = refl; length = refl }
valid_1 Super = record { valid = refl; length = refl }

valid_2 : (space : Space) → Valid space 2
valid_2 User = record { valid = refl; length = refl }
valid_2 Super = record { valid = refl; length = refl }

valid_4 : (space : Space) → Valid space 4
valid_4 User = record { valid = refl; length = refl }
valid_4 Super = record { valid = refl; length = refl }

valid_16 : (space : Space) → Valid space 16
valid_16 User = record { valid = refl; length = refl }
valid_16 Super = record { valid = refl; length = refl }

valid_piece : (space : Space) (p : Pend) → IsOwn p → Valid space p.len
valid_piece space p own = elim (lengths (piece_of p) own.piece) [
  | inl e ↦ subst (λ (n : ℕ). Valid space n) (sym e) (valid_1 space)
  | inr (inl e) ↦ subst (λ (n : ℕ). Valid space n) (sym e) (valid_2 space)
  | inr (inr e) ↦ subst (λ (n : ℕ). Valid space n) (sym e) (valid_4 space)
]

no_line : (p : Pend) → IsOwn p → (p.len == 16) ≡ false
no_line p own = let h = own.piece.1 in grind (arith, nat_tests)

small : (a b : ℕ) → a < b → a % b ≡ a
small a b h = grind arith

-- the value that a register-aligned writeback holds, and a memory-aligned one
own_register : (p : Pend) → IsOwn p → register_aligned p ≡ p.value
own_register p own = small p.value (span_of (piece_of p)) own.value

own_memory : (p : Pend) → IsOwn p → unlaid (piece_of p) (memory_aligned p) ≡ p.value
own_memory p own = unlaid_laid (piece_of p) p.value ∙ small p.value (span_of (piece_of p)) own.value

-- ---- the cases

tells_read : (fault : Fault) (first page : ℕ) → left_in (read_fields fault first page) ≡ left.Again
tells_read fault first page =
    let ea = if fault.code then fault.at else first in
    let a = status-le fault ea page in
    let b = bit_if-le fault.write LK in
    rw (no_cm (status fault ea page + bit_if fault.write LK + RW) (omega arith)) refl

tells_movem : (fault : Fault) (first start done words next : ℕ) (is_load : Bool) (page : ℕ)
    → left_in (movem_fields fault first start done words next is_load page) ≡ left.Movem words first done next
tells_movem fault first start done words next is_load page =
    let a = status-le fault start page in
    let b = bit_if-le is_load RW in
    rw (has_cm (status fault start page + CM + bit_if is_load RW) (omega arith) (omega arith)) refl

tells_check : (fault : Fault) → left_in (check_fields fault) ≡ left.Again
tells_check fault =
    let a = access_bits-le fault.len Super false in
    let b = bit_if-le fault.atc ATC in
    rw (no_cm (bit_if fault.atc ATC + access_bits fault.len Super false) (omega arith)) refl

-- ---- lines

tells_line : (fault : Fault) (a b c d page : ℕ)
    → left_in (line_fields fault (a ∷ b ∷ c ∷ d ∷ []) page) ≡ left.Line fault.at (a ∷ b ∷ c ∷ d ∷ [])
tells_line fault a b c d page =
    let few = status-le fault fault.at page in
    let v = valid_16 fault.space in
    rw (no_cm (status fault fault.at page) (omega arith)) (rw v.valid (rw v.length refl))

-- ---- pieces

first_is : (space : Space) (p : Pend) → IsOwn p
    → record {
      at = p.at;
      len = length_in (writeback_status space p.len);
      value = unlaid (record { at = p.at; len = length_in (writeback_status space p.len) }) (memory_aligned p);
    } ≡ p
first_is space p own =
    ap (λ (n : ℕ). let x : Pend = record { at = p.at; len = n; value = unlaid (record { at = p.at; len = n }) (memory_aligned p) } in x)
    (valid_piece space p own).length
    ∙ ap (λ (v : ℕ). let x : Pend = record { at = p.at; len = p.len; value = v } in x) (own_memory p own)

other_is : (space : Space) (p : Pend) → IsOwn p
    → record { at = p.at; len = length_in (writeback_status space p.len); value = register_aligned p } ≡ p
other_is space p own =
    ap (λ (n : ℕ). let x : Pend = record { at = p.at; len = n; value = register_aligned p } in x) (valid_piece space p own).length
    ∙ ap (λ (v : ℕ). let x : Pend = record { at = p.at; len = p.len; value = v } in x) (own_register p own)

valid_list : (space : Space) (p x : Pend) → IsOwn p → x ≡ p → if_valid (is_valid (writeback_status space p.len)) x ≡ p ∷ []
valid_list space p x own e = rw (valid_piece space p own).valid (ap (λ (y : Pend). y ∷ []) e)

joined : (a b c : List Pend) (x y z : List Pend) → a ≡ x → b ≡ y → c ≡ z → a ++ b ++ c ≡ x ++ y ++ z
joined a b c x y z e f g =
    ap (λ (l : List Pend). l ++ b ++ c) e ∙ ap (λ (l : List Pend). x ++ l ++ c) f ∙ ap (λ (l : List Pend). x ++ y ++ l) g

pending_one : (fault : Fault) (first page : ℕ) (p : Pend) → IsOwn p → pending_in (write_fields fault first (p ∷ []) page) ≡ p ∷ []
pending_one fault first page p own =
    joined _ _ _ (p ∷ []) [] [] (valid_list fault.space p _ own (first_is fault.space p own)) refl refl

pending_two : (fault : Fault) (first page : ℕ) (p q : Pend) → IsOwn p → IsOwn q
    → pending_in (write_fields fault first (p ∷ q ∷ []) page) ≡ p ∷ q ∷ []
pending_two fault first page p q own other =
    joined _ _ _ (p ∷ []) (q ∷ []) [] (valid_list fault.space p _ own (first_is fault.space p own))
    (valid_list fault.space q _ other (other_is fault.space q other)) refl

pending_three : (fault : Fault) (first page : ℕ) (p q r : Pend) → IsOwn p → IsOwn q → IsOwn r
    → pending_in (write_fields fault first (p ∷ q ∷ r ∷ []) page) ≡ p ∷ q ∷ r ∷ []
pending_three fault first page p q r own other third =
    joined _ _ _ (p ∷ []) (q ∷ []) (r ∷ []) (valid_list fault.space p _ own (first_is fault.space p own))
    (valid_list fault.space q _ other (other_is fault.space q other)) (valid_list fault.space r _ third (other_is fault.space r third))

pub pending_told : (fault : Fault) (first page : ℕ) (rest : List Pend) → length rest ≤ 3 → AreOwn rest
    → pending_in (write_fields fault first rest page) ≡ rest
pending_told fault first page [] few own = refl
pending_told fault first page (p ∷ []) few own = pending_one fault first page p own.0
pending_told fault first page (p ∷ q ∷ []) few own = pending_two fault first page p q own.0 own.1.0
pending_told fault first page (p ∷ q ∷ r ∷ []) few own = pending_three fault first page p q r own.0 own.1.0 own.1.1.0
pending_told fault first page (p ∷ q ∷ r ∷ s ∷ more) few own = absurd (omega arith)

-- of a frame with a valid writeback that is no line
writes_by : (a : Access) → continues a ≡ false → is_valid a.wb1s ≡ true → (length_in a.wb1s == 16) ≡ false
    → left_in a ≡ written (pending_in a) a.ea
writes_by a c v l = rw c (rw v (rw l refl))

no_writeback : (a : Access) → continues a ≡ false → is_valid a.wb1s ≡ false → left_in a ≡ left.Again
no_writeback a c v = rw c (rw v refl)

one_valid : (fault : Fault) (first page : ℕ) (p : Pend) (ps : List Pend) → (write_fields fault first (p ∷ ps) page).wb1s ≡ writeback_status fault.space p.len
one_valid fault first page p ps = refl

-- the status and the first byte of a refused write's frame
write_status : (fault : Fault) (first page : ℕ) (rest : List Pend) → length rest ≤ 3
    → ((write_fields fault first rest page).ssw ≡ status fault first page) × ((write_fields fault first rest page).ea ≡ first)
write_status fault first page [] few = (refl, refl)
write_status fault first page (p ∷ []) few = (refl, refl)
write_status fault first page (p ∷ q ∷ []) few = (refl, refl)
write_status fault first page (p ∷ q ∷ r ∷ more) few = (refl, refl)

tells_writes : (fault : Fault) (first page : ℕ) (p : Pend) (ps : List Pend) → length (p ∷ ps) ≤ 3 → AreOwn (p ∷ ps)
    → left_in (write_fields fault first (p ∷ ps) page) ≡ written (p ∷ ps) first
tells_writes fault first page p ps few own =
    let a = write_fields fault first (p ∷ ps) page in
    let s = write_status fault first page (p ∷ ps) few in
    let v = valid_piece fault.space p own.0 in
    let low = status-le fault first page in
    writes_by a (ap (λ (n : ℕ). n / 2 ^ 12 % 2 == 1) s.0 ∙ no_cm (status fault first page) (omega arith))
    (ap is_valid (one_valid fault first page p ps) ∙ v.valid)
    (ap (λ (n : ℕ). length_in n == 16) (one_valid fault first page p ps) ∙ ap (λ (n : ℕ). n == 16) v.length ∙ no_line p own.0)
    ∙ ap (λ (l : List Pend). written l a.ea) (pending_told fault first page (p ∷ ps) few own) ∙ ap (written (p ∷ ps)) s.1

tells_unbegun : (fault : Fault) (first page : ℕ) → left_in (write_fields fault first [] page) ≡ left.Again
tells_unbegun fault first page =
    let low = status-le fault first page in
    no_writeback (write_fields fault first [] page) (no_cm (status fault first page) (omega arith)) refl

tells_lines : (fault : Fault) (longs : List ℕ) (page : ℕ) → length longs ≡ 4 → left_in (line_fields fault longs page) ≡ left.Line fault.at longs
tells_lines fault [] page h = absurd (omega arith)
tells_lines fault (a ∷ []) page h = absurd (omega arith)
tells_lines fault (a ∷ b ∷ []) page h = absurd (omega arith)
tells_lines fault (a ∷ b ∷ c ∷ []) page h = absurd (omega arith)
tells_lines fault (a ∷ b ∷ c ∷ d ∷ []) page h = tells_line fault a b c d page
tells_lines fault (a ∷ b ∷ c ∷ d ∷ e ∷ more) page h = absurd (omega arith)

pub frames_tell : FramesTell
frames_tell (Read fault first) page h = tells_read fault first page
frames_tell (Write fault first []) page h = tells_unbegun fault first page
frames_tell (Write fault first (p ∷ ps)) page h = tells_writes fault first page p ps h.0 h.1
frames_tell (Line fault longs) page h = tells_lines fault longs page h
frames_tell (Movem fault first start done words next is_load) page h = tells_movem fault first start done words next is_load page
frames_tell (Check fault) page h = tells_check fault
