-- The lexemes of statements are lexemes, and each ends where the next one begins.
use Rattle.std.proofs.Common.{◌≡◌, ℕ, suc, ◌≤◌, Bool, true, false, List, [], ◌∷◌, ◌++◌, refl, sym, subst, ap, ◌∙◌, append_assoc, arith}
use Rattle.std.specs.Prelude.{ℤ, pos, negsuc, ◌&&◌, not, Option, Some, None, All, if◌then◌else◌}
use Rattle.std.proofs.lemmas.Bool.Decides.{nat_tests}
use Rattle.std.proofs.lemmas.Grind.{flat_map-append}
use Rattle.std.proofs.lemmas.List.Elements.{All-cons, All-nil, All-append}
use Rattle.mb_asm_text.specs.declared.token.TokenKind.{TokenKind}
use Rattle.mb_asm_text.specs.declared.token.TokenKind.TheVariants as kind
use Rattle.mb_asm_text.specs.Kinds.{is_blank, is_hexadecimal_digit, is_name_part}
use Rattle.mb_syntax.specs.declared.word.Word.{Word}
use Rattle.mb_syntax.specs.declared.register.Register.{Register}
use Rattle.mb_syntax.specs.declared.register.Register.TheVariants as register
use Rattle.mb_syntax.specs.declared.mode.Width.{Width}
use Rattle.mb_syntax.specs.declared.mode.Scale.{Scale}
use Rattle.mb_syntax.specs.declared.mode.Scale.TheVariants as scale
use Rattle.mb_syntax.specs.declared.mode.Index.{Index}
use Rattle.mb_syntax.specs.declared.mode.Base.{Base}
use Rattle.mb_syntax.specs.declared.mode.Base.TheVariants as base
use Rattle.mb_syntax.specs.declared.mode.Displacement.{Displacement}
use Rattle.mb_syntax.specs.declared.mode.Indirection.{Indirection}
use Rattle.mb_syntax.specs.declared.mode.Indirection.TheVariants as indirection
use Rattle.mb_syntax.specs.declared.mode.Mode.{Mode}
use Rattle.mb_syntax.specs.declared.mode.Mode.TheVariants as mode
use Rattle.mb_statement.specs.Written.{is_base, is_displacement, is_index, is_mode, is_narrow, is_register, says_full}
use Rattle.mb_statement.specs.Texts.{is_left_out}
use Rattle.mb_statement.proofs.Lexemes.{Lexeme, IsLexeme, are_parted, both, ends, ends_run, spelled}
use Rattle.mb_statement.proofs.Spelled.{reg, reg_is, is_numbered, size, size_is, numeral, numeral_is, figure, two_is, four_is, eight_is, mark}
use Rattle.mb_statement.proofs.Spelled.{hash_is, open_mark, open_is, close_mark, close_is, open_square_is, close_square_is}
use Rattle.mb_statement.proofs.Spelled.{comma, comma_is, dot, dot_is, plus, plus_is, minus_is, star_is}
use Rattle.mb_statement.proofs.PartsRead.{base_lexemes, base_register, behind_lexemes, displacement_lexemes, front_lexemes, group_lexemes, index_lexemes}
use Rattle.mb_statement.proofs.PartsRead.{register_at, scaled, value, width_letter}
use Rattle.mb_statement.proofs.ModesRead.{absolute_width, full_lexemes, mode_lexemes, outer_lexemes, written_index}

-- no token goes on with the bytes
abbrev pub stops_bytes : List ℕ → Bool
stops_bytes rest = ends_run is_name_part rest && ends_run is_hexadecimal_digit rest && ends_run is_blank rest

pub record Fit (ls : List Lexeme) : Type 0 where
  pub all : All IsLexeme ls
  pub parted : (rest : List ℕ) → stops_bytes rest ≡ true → are_parted ls rest ≡ true

-- lexemes at whose beginning each token ends
abbrev pub Begins : List Lexeme → Type 0
Begins ls = (rest : List ℕ) → stops_bytes rest ≡ true → stops_bytes (spelled ls ++ rest) ≡ true

pub ends_kind : (k : TokenKind) (rest : List ℕ) → stops_bytes rest ≡ true → ends k rest ≡ true
ends_kind kind.Name rest h = (both (ends_run is_name_part rest) _ (both _ (ends_run is_blank rest) h).0).0
ends_kind kind.Number rest h = (both (ends_run is_name_part rest) _ (both _ (ends_run is_blank rest) h).0).1
ends_kind kind.Blank rest h = (both _ (ends_run is_blank rest) h).1
ends_kind kind.Text rest h = refl
ends_kind kind.Mark rest h = refl
ends_kind kind.Comment rest h = refl

pub fit_none : Fit []
fit_none = record { all = All-nil IsLexeme; parted = λ rest h. refl }

pub fit_one : (l : Lexeme) → IsLexeme l → Fit (l ∷ [])
fit_one l h = record {
  all = All-cons IsLexeme l [] h (All-nil IsLexeme);
  parted = λ rest stop. rw (ends_kind l.kind rest stop) refl;
}

pub fit_mark : (byte : ℕ) (says : Word) (ls : List Lexeme) → IsLexeme (mark byte says) → Fit ls → Fit (mark byte says ∷ ls)
fit_mark byte says ls h fit = record {
  all = All-cons IsLexeme (mark byte says) ls h fit.all;
  parted = λ rest stop. fit.parted rest stop;
}

and_assoc : (a b c : Bool) → ((a && b) && c) ≡ (a && (b && c))
and_assoc true b c = refl
and_assoc false b c = refl

parted_append : (xs ys : List Lexeme) (rest : List ℕ) → are_parted (xs ++ ys) rest ≡ (are_parted xs (spelled ys ++ rest) && are_parted ys rest)
parted_append [] ys rest = refl
parted_append (x ∷ xs) ys rest =
    let bytes : spelled (xs ++ ys) ++ rest ≡ spelled xs ++ (spelled ys ++ rest) =
    ap (λ (bs : List ℕ). bs ++ rest) (flat_map-append (λ (l : Lexeme). l.bytes) xs ys) ∙ append_assoc (spelled xs) (spelled ys) rest in
    rw (bytes, parted_append xs ys rest)
    (sym (and_assoc (ends x.kind (spelled xs ++ (spelled ys ++ rest))) (are_parted xs (spelled ys ++ rest)) (are_parted ys rest)))

pub fit_append : (xs ys : List Lexeme) → Fit xs → Fit ys → Begins ys → Fit (xs ++ ys)
fit_append xs ys fit_xs fit_ys begins = record {
  all = All-append IsLexeme xs ys fit_xs.all fit_ys.all;
  parted = λ rest stop. parted_append xs ys rest ∙ rw (fit_xs.parted (spelled ys ++ rest) (begins rest stop)) (fit_ys.parted rest stop);
}

-- one lexeme before others
pub fit_cons : (l : Lexeme) (ls : List Lexeme) → IsLexeme l → Fit ls → Begins ls → Fit (l ∷ ls)
fit_cons l ls h fit begins = fit_append (l ∷ []) ls (fit_one l h) fit begins

-- ---- parts of modes

narrow_le : (n : ℕ) → is_narrow (pos n) ≡ true → n ≤ 4294967295
narrow_le n h = grind (arith, nat_tests)

narrow_suc : (n : ℕ) → is_narrow (negsuc n) ≡ true → suc n ≤ 4294967295
narrow_suc n h = grind (arith, nat_tests)

pub fit_value : (e : ℤ) → is_narrow e ≡ true → Fit (value e)
fit_value (pos n) h = fit_one (numeral n) (numeral_is n (narrow_le n h))
fit_value (negsuc n) h = fit_mark _ _ (numeral (suc n) ∷ []) minus_is (fit_one (numeral (suc n)) (numeral_is (suc n) (narrow_suc n h)))

fit_width : (w : Width) → Fit (dot ∷ size (width_letter w) ∷ [])
fit_width w = fit_mark _ _ (size (width_letter w) ∷ []) dot_is (fit_one (size (width_letter w)) (size_is (width_letter w)))

fit_scale : (s : Scale) → Fit (scaled s)
fit_scale scale.One = fit_none
fit_scale scale.Two = fit_mark _ _ (figure 2 ∷ []) star_is (fit_one (figure 2) two_is)
fit_scale scale.Four = fit_mark _ _ (figure 4 ∷ []) star_is (fit_one (figure 4) four_is)
fit_scale scale.Eight = fit_mark _ _ (figure 8 ∷ []) star_is (fit_one (figure 8) eight_is)

scale_begins : (s : Scale) → Begins (scaled s)
scale_begins scale.One rest h = h
scale_begins scale.Two rest h = refl
scale_begins scale.Four rest h = refl
scale_begins scale.Eight rest h = refl

register_fits : (a d : Bool) (n : ℕ) → is_register n ≡ true → is_numbered (register_at a d n) ≡ true
register_fits false false n h = grind (arith, nat_tests)
register_fits true false n h = grind (arith, nat_tests)
register_fits false true n h = grind (arith, nat_tests)
register_fits true true n h = grind (arith, nat_tests)

fit_index : (i : Index) → is_register i.register ≡ true → Fit (index_lexemes i)
fit_index i h =
    fit_cons (reg (register_at i.is_address i.is_dropped i.register)) (dot ∷ size (width_letter i.width) ∷ scaled i.scale)
    (reg_is (register_at i.is_address i.is_dropped i.register) (register_fits i.is_address i.is_dropped i.register h))
    (fit_mark _ _ (size (width_letter i.width) ∷ scaled i.scale) dot_is
    (fit_cons (size (width_letter i.width)) (scaled i.scale) (size_is (width_letter i.width)) (fit_scale i.scale) (scale_begins i.scale)))
    (λ rest stop. refl)

base_fits : (b : Base) → is_base b ≡ true → is_numbered (base_register b) ≡ true
base_fits (base.Address n) h = grind (arith, nat_tests)
base_fits base.Pc h = refl
base_fits (base.NoAddress n) h = grind (arith, nat_tests)
base_fits base.NoPc h = refl

fit_displacement : (d : Displacement ℤ) → is_narrow d.value ≡ true → Fit (displacement_lexemes d)
fit_displacement d h = fit_append (value d.value) (dot ∷ size (width_letter d.width) ∷ []) (fit_value d.value h) (fit_width d.width) (λ rest stop. refl)

fit_front : (d : Option (Displacement ℤ)) → is_displacement d ≡ true → Fit (front_lexemes d)
fit_front None h = fit_none
fit_front (Some d) h = fit_append (displacement_lexemes d) (comma ∷ []) (fit_displacement d h) (fit_mark _ _ [] comma_is fit_none) (λ rest stop. refl)

-- an index behind a mark, where it is written
abbrev is_written_index : Option Index → Bool
is_written_index None = true
is_written_index (Some i) = is_register i.register

fit_behind : (x : Option Index) → is_written_index x ≡ true → Fit (behind_lexemes x)
fit_behind None h = fit_none
fit_behind (Some i) h = fit_mark _ _ (index_lexemes i) comma_is (fit_index i h)

behind_begins : (x : Option Index) → Begins (behind_lexemes x)
behind_begins None rest h = h
behind_begins (Some i) rest h = refl

fit_outer : (d : Option (Displacement ℤ)) → is_displacement d ≡ true → Fit (outer_lexemes d)
fit_outer None h = fit_none
fit_outer (Some d) h = fit_mark _ _ (displacement_lexemes d) comma_is (fit_displacement d h)

outer_begins : (d : Option (Displacement ℤ)) (ls : List Lexeme) → Begins ls → Begins (outer_lexemes d ++ ls)
outer_begins None ls begins = begins
outer_begins (Some d) ls begins = λ rest stop. refl

fit_base : (b : Base) (x : Option Index) → is_base b ≡ true → is_written_index x ≡ true → Fit (base_lexemes b x)
fit_base b x h i = fit_cons (reg (base_register b)) (behind_lexemes x) (reg_is (base_register b) (base_fits b h)) (fit_behind x i) (behind_begins x)

fit_group : (d : Option (Displacement ℤ)) (b : Base) (x : Option Index) → is_displacement d ≡ true → is_base b ≡ true → is_written_index x ≡ true
    → Fit (group_lexemes d b x)
fit_group None b x h k i = fit_base b x k i
fit_group (Some d) b x h k i =
    subst (λ (ls : List Lexeme). Fit ls) (sym (append_assoc (displacement_lexemes d) (comma ∷ []) (base_lexemes b x)))
    (fit_append (displacement_lexemes d) (comma ∷ base_lexemes b x) (fit_displacement d h) (fit_mark _ _ (base_lexemes b x) comma_is (fit_base b x k i))
    (λ rest stop. refl))

fit_close : Fit (close_mark ∷ [])
fit_close = fit_mark _ _ [] close_is fit_none

-- lexemes before others that begin with a mark
pub fit_before : (xs : List Lexeme) (byte : ℕ) (says : Word) (ls : List Lexeme) → Fit xs → IsLexeme (mark byte says) → Fit ls
    → ((bytes : List ℕ) → stops_bytes (byte ∷ bytes) ≡ true) → Fit (xs ++ mark byte says ∷ ls)
fit_before xs byte says ls fit h later stop = fit_append xs (mark byte says ∷ ls) fit (fit_mark byte says ls h later) (λ rest e. stop (spelled ls ++ rest))

written_fits : (i : Index) (left : Bool) → is_register i.register ≡ true → is_written_index (if left then None else Some i) ≡ true
written_fits i true h = refl
written_fits i false h = h

fit_outer_close : (o : Option (Displacement ℤ)) → is_displacement o ≡ true → Fit (outer_lexemes o ++ close_mark ∷ [])
fit_outer_close o h = fit_before (outer_lexemes o) _ _ [] (fit_outer o h) close_is fit_none (λ bytes. refl)

full_fits : (k : Indirection) (d : Option (Displacement ℤ)) (b : Base) (x : Option Index) (o : Option (Displacement ℤ)) → is_displacement d ≡ true
    → is_base b ≡ true → is_written_index x ≡ true → is_displacement o ≡ true → Fit (full_lexemes k d b x o)
full_fits indirection.Direct d b x o hd hb hx ho =
    fit_mark _ _ _ open_is (fit_before (group_lexemes d b x) _ _ [] (fit_group d b x hd hb hx) close_is fit_none (λ bytes. refl))
full_fits indirection.PreIndexed d b x o hd hb hx ho =
    fit_mark _ _ _ open_is (fit_mark _ _ _ open_square_is
    (fit_before (group_lexemes d b x) _ _ (outer_lexemes o ++ close_mark ∷ []) (fit_group d b x hd hb hx) close_square_is
    (fit_outer_close o ho) (λ bytes. refl)))
full_fits indirection.PostIndexed d b x o hd hb hx ho =
    fit_mark _ _ _ open_is (fit_mark _ _ _ open_square_is
    (fit_before (group_lexemes d b None) _ _ (behind_lexemes x ++ (outer_lexemes o ++ close_mark ∷ [])) (fit_group d b None hd hb refl) close_square_is
    (fit_append (behind_lexemes x) (outer_lexemes o ++ close_mark ∷ []) (fit_behind x hx) (fit_outer_close o ho)
    (outer_begins o (close_mark ∷ []) (λ rest stop. refl))) (λ bytes. refl)))

fit_absolute : (w : Option Width) → Fit (absolute_width w)
fit_absolute None = fit_none
fit_absolute (Some w) = fit_width w

absolute_begins : (w : Option Width) → Begins (absolute_width w)
absolute_begins None rest h = h
absolute_begins (Some w) rest h = refl

address_fits : (n : ℕ) → is_register n ≡ true → is_numbered (register.Address n) ≡ true
address_fits n h = grind (arith, nat_tests)

pub fit_register : (r : Register) → is_numbered r ≡ true → Fit (reg r ∷ close_mark ∷ [])
fit_register r h = fit_cons (reg r) (close_mark ∷ []) (reg_is r h) fit_close (λ rest stop. refl)

-- `,`, a register, `,` and an index
fit_indexed : (e : ℤ) (r : Register) (i : Index) → is_narrow e ≡ true → is_numbered r ≡ true → is_register i.register ≡ true
    → Fit (open_mark ∷ value e ++ (comma ∷ reg r ∷ comma ∷ index_lexemes i ++ close_mark ∷ []))
fit_indexed e r i he hr hi =
    fit_mark _ _ _ open_is (fit_before (value e) _ _ (reg r ∷ comma ∷ index_lexemes i ++ close_mark ∷ []) (fit_value e he) comma_is
    (fit_cons (reg r) (comma ∷ index_lexemes i ++ close_mark ∷ []) (reg_is r hr)
    (fit_mark _ _ _ comma_is (fit_before (index_lexemes i) _ _ [] (fit_index i hi) close_is fit_none (λ bytes. refl))) (λ rest stop. refl)) (λ bytes. refl))

fit_displaced : (e : ℤ) (r : Register) → is_narrow e ≡ true → is_numbered r ≡ true → Fit (open_mark ∷ value e ++ comma ∷ reg r ∷ close_mark ∷ [])
fit_displaced e r he hr =
    fit_mark _ _ _ open_is (fit_before (value e) _ _ (reg r ∷ close_mark ∷ []) (fit_value e he) comma_is (fit_register r hr) (λ bytes. refl))

pub fit_mode : (m : Mode ℤ) → is_mode m ≡ true → Fit (mode_lexemes m)
fit_mode (mode.Data n) h = fit_one (reg (register.Data n)) (reg_is (register.Data n) (grind (arith, nat_tests)))
fit_mode (mode.Address n) h = fit_one (reg (register.Address n)) (reg_is (register.Address n) (address_fits n h))
fit_mode (mode.Indirect n) h = fit_mark _ _ _ open_is (fit_register (register.Address n) (address_fits n h))
fit_mode (mode.PostIncrement n) h =
    fit_mark _ _ _ open_is (fit_cons (reg (register.Address n)) (close_mark ∷ plus ∷ []) (reg_is (register.Address n) (address_fits n h))
    (fit_mark _ _ _ close_is (fit_mark _ _ [] plus_is fit_none)) (λ rest stop. refl))
fit_mode (mode.PreDecrement n) h = fit_mark _ _ _ minus_is (fit_mark _ _ _ open_is (fit_register (register.Address n) (address_fits n h)))
fit_mode (mode.Displaced n e) h =
    let parts = both (is_register n) (is_narrow e) h in fit_displaced e (register.Address n) parts.1 (address_fits n parts.0)
fit_mode (mode.Indexed n e i) h =
    let parts = both (is_register n && is_narrow e) (is_index i) h in
    let first = both (is_register n) (is_narrow e) parts.0 in
    fit_indexed e (register.Address n) i first.1 (address_fits n first.0) (both (not i.is_dropped) (is_register i.register) parts.1).1
fit_mode (mode.Absolute e w) h = fit_append (value e) (absolute_width w) (fit_value e h) (fit_absolute w) (absolute_begins w)
fit_mode (mode.PcDisplaced e) h = fit_displaced e register.Pc h refl
fit_mode (mode.PcIndexed e i) h =
    let parts = both (is_narrow e) (is_index i) h in
    fit_indexed e register.Pc i parts.0 refl (both (not i.is_dropped) (is_register i.register) parts.1).1
fit_mode (mode.Full f) h =
    let a = both (is_displacement f.displacement && is_base f.base && is_register f.index.register && is_displacement f.outer) (says_full f) h in
    let b = both (is_displacement f.displacement && is_base f.base && is_register f.index.register) (is_displacement f.outer) a.0 in
    let c = both (is_displacement f.displacement && is_base f.base) (is_register f.index.register) b.0 in
    let d = both (is_displacement f.displacement) (is_base f.base) c.0 in
    full_fits f.indirection f.displacement f.base (written_index f) f.outer d.0 d.1 (written_fits f.index (is_left_out f) c.1) b.1
fit_mode (mode.Immediate e) h = fit_mark _ _ (value e) hash_is (fit_value e h)
