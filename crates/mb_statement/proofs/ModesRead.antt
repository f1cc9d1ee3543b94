-- What the lexemes of addressing modes are read as.
use Rattle.std.proofs.Common.{◌≡◌, ℕ, ◌+◌, Bool, true, false, List, [], ◌∷◌, ◌++◌, refl, sym, ap, ◌∙◌}
use Rattle.std.proofs.lemmas.Bool.{eqb-true}
use Rattle.std.specs.Prelude.{◌==◌}
use Rattle.std.specs.Prelude.{ℤ, pos, negsuc, ◌&&◌, ◌||◌, not, Option, Some, None, is_some, option_map, if◌then◌else◌}
use Rattle.mb_syntax.specs.declared.word.Word.{Word}
use Rattle.mb_syntax.specs.declared.word.Word.TheVariants as word
use Rattle.mb_syntax.specs.declared.register.Register.{Register}
use Rattle.mb_syntax.specs.declared.register.Register.TheVariants as register
use Rattle.mb_syntax.specs.declared.mode.Width.{Width}
use Rattle.mb_syntax.specs.declared.mode.Width.TheVariants as width
use Rattle.mb_syntax.specs.declared.mode.Scale.{Scale}
use Rattle.mb_syntax.specs.declared.mode.Scale.TheVariants as scale
use Rattle.mb_syntax.specs.declared.mode.Index.{Index}
use Rattle.mb_syntax.specs.declared.mode.Base.{Base}
use Rattle.mb_syntax.specs.declared.mode.Base.TheVariants as base
use Rattle.mb_syntax.specs.declared.mode.Displacement.{Displacement}
use Rattle.mb_syntax.specs.declared.mode.Indirection.{Indirection}
use Rattle.mb_syntax.specs.declared.mode.Indirection.TheVariants as indirection
use Rattle.mb_syntax.specs.declared.mode.FullForm.{FullForm}
use Rattle.mb_syntax.specs.declared.mode.Mode.{Mode}
use Rattle.mb_syntax.specs.declared.mode.Mode.TheVariants as mode
use Rattle.mb_syntax.specs.Modes.{Sum, direct_at, close_at, close_square_at, direct_mode, displacement_of, full, group_at, index_at, index_behind_brackets}
use Rattle.mb_syntax.specs.Modes.{index_part, mode_at, no_index, optional, outer_at, post_indexed, read_at, stepped, width_at}
use Rattle.mb_mnemonics.specs.Values.{valued_displacement, valued_form, valued_mode}
use Rattle.mb_statement.specs.Read.{sum_of}
use Rattle.mb_statement.specs.Texts.{asks_full, is_left_out, is_no_index, is_one, is_word}
use Rattle.mb_statement.specs.Written.{is_index, is_mode, is_register, says_full}
use Rattle.mb_statement.proofs.Lexemes.{Lexeme, both, said}
use Rattle.mb_statement.proofs.Spelled.{reg, size, hash, open_mark, close_mark, open_square, close_square, comma, dot, plus, minus, not_true}
use Rattle.mb_syntax.specs.Options.{◌>>=◌}
use Rattle.mb_statement.proofs.PartsRead.{GroupRead, SizedRead, after, behind_lexemes, ends_register, index}
use Rattle.mb_statement.proofs.PartsRead.{displacement, displacement_lexemes, ends_sum, group, group_lexemes, group_read}
use Rattle.mb_statement.proofs.PartsRead.{index_before, index_lexemes, index_read, said_append, sized_of, sum_read, terms_end, value, width_letter}

-- the end of an operand: nothing, a comma, or a bit field
abbrev pub stops : List Word → Bool
stops [] = true
stops (word.Comma ∷ words) = true
stops (word.OpenBrace ∷ words) = true
stops _ = false

pub stops_sum : (words : List Word) → stops words ≡ true → ends_sum words ≡ true
stops_sum [] h = refl
stops_sum (word.Comma ∷ words) h = refl
stops_sum (word.OpenBrace ∷ words) h = refl
stops_sum (first ∷ words) h = absurd cc

width_end : (words : List Word) → stops words ≡ true → width_at words ≡ None
width_end [] h = refl
width_end (word.Comma ∷ words) h = refl
width_end (word.OpenBrace ∷ words) h = refl
width_end (first ∷ words) h = absurd cc

stepped_end : (n : ℕ) (words : List Word) → stops words ≡ true → stepped (mode.Indirect n) words ≡ (mode.Indirect n, words)
stepped_end n [] h = refl
stepped_end n (word.Comma ∷ words) h = refl
stepped_end n (word.OpenBrace ∷ words) h = refl
stepped_end n (first ∷ words) h = absurd cc

pub both_false : (b : Bool) → (b && false) ≡ true → ⊥
both_false true h = absurd cc
both_false false h = absurd cc

-- ---- full forms

-- the index, where it is written
abbrev pub written_index : FullForm ℤ → Option Index
written_index f = if is_left_out f then None else Some f.index

abbrev pub outer_lexemes : Option (Displacement ℤ) → List Lexeme
outer_lexemes None = []
outer_lexemes (Some d) = comma ∷ displacement_lexemes d

abbrev pub full_lexemes : Indirection → Option (Displacement ℤ) → Base → Option Index → Option (Displacement ℤ) → List Lexeme
full_lexemes indirection.Direct d b x o = open_mark ∷ group_lexemes d b x ++ close_mark ∷ []
full_lexemes indirection.PreIndexed d b x o =
    open_mark ∷ open_square ∷ group_lexemes d b x ++ (close_square ∷ outer_lexemes o ++ close_mark ∷ [])
full_lexemes indirection.PostIndexed d b x o =
    open_mark ∷ open_square ∷ group_lexemes d b None ++ (close_square ∷ behind_lexemes x ++ (outer_lexemes o ++ close_mark ∷ []))

-- a group begins with a register or a number
abbrev pub begins_group : List Word → Bool
begins_group (word.Register r place ∷ words) = true
begins_group (word.Number n ∷ words) = true
begins_group (word.Minus ∷ words) = true
begins_group _ = false

group_begins_by : (e : ℤ) (w : Width) (b : Base) (x : Option Index) (p : ℕ) (behind : List Word)
    → begins_group (said (group_lexemes (Some (displacement e w)) b x) p behind) ≡ true
group_begins_by (pos n) w b x p behind = refl
group_begins_by (negsuc n) w b x p behind = refl

group_begins : (d : Option (Displacement ℤ)) (b : Base) (x : Option Index) (p : ℕ) (behind : List Word)
    → begins_group (said (group_lexemes d b x) p behind) ≡ true
group_begins None b x p behind = refl
group_begins (Some d) b x p behind = group_begins_by d.value d.width b x p behind

direct_opened : (words : List Word) → begins_group words ≡ true → mode_at (word.Open ∷ words) ≡ direct_at words
direct_opened [] h = absurd cc
direct_opened (word.Register r place ∷ words) h = refl
direct_opened (word.Number n ∷ words) h = refl
direct_opened (word.Minus ∷ words) h = refl
direct_opened (first ∷ words) h = absurd cc

no_index_so : (a d : Bool) (n : ℕ) (w : Width) (s : Scale) → d ≡ true → not a ≡ true → (n == 0) ≡ true → is_word w ≡ true → is_one s ≡ true
    → index a d n w s ≡ no_index
no_index_so false true n width.Word scale.One hd ha hn hw hs = let none : n ≡ 0 = eqb-true n 0 hn in rw none refl
no_index_so _ _ _ _ _ hd ha hn hw hs = absurd cc

no_index_by : (a d : Bool) (n : ℕ) (w : Width) (s : Scale) → is_no_index (index a d n w s) ≡ true → index a d n w s ≡ no_index
no_index_by a d n w s h =
    let scaled_so = both (((d && not a) && (n == 0)) && is_word w) (is_one s) h in
    let wide_so = both ((d && not a) && (n == 0)) (is_word w) scaled_so.0 in
    let none_so = both (d && not a) (n == 0) wide_so.0 in
    let first_so = both d (not a) none_so.0 in
    no_index_so a d n w s first_so.0 first_so.1 none_so.1 wide_so.1 scaled_so.1

no_index_is : (i : Index) → is_no_index i ≡ true → i ≡ no_index
no_index_is i h = no_index_by i.is_address i.is_dropped i.register i.width i.scale h

displaced_read : (d : Option (Displacement ℤ)) → option_map displacement_of (option_map sized_of d) ≡ option_map (valued_displacement sum_of) d
displaced_read None = refl
displaced_read (Some d) = refl

abbrev pub form : Option (Displacement ℤ) → Base → Index → Indirection → Option (Displacement ℤ) → FullForm ℤ
form d b i k o = record { displacement = d; base = b; index = i; indirection = k; outer = o }

-- what a form without brackets says, by whether its index is left out
direct_said : (d : Option (Displacement ℤ)) (b : Base) (i : Index) (left : Bool) → is_left_out (form d b i indirection.Direct None) ≡ left
    → (asks_full (form d b i indirection.Direct None) || i.is_dropped) ≡ true
    → direct_mode (group d b (if left then None else Some i)) ≡ Some (mode.Full (valued_form sum_of (form d b i indirection.Direct None)))
direct_said None (base.NoAddress n) i true e h = rw (no_index_is i (both _ _ e).0) refl
direct_said None base.NoPc i true e h = rw (no_index_is i (both _ _ e).0) refl
direct_said None (base.Address n) i true e h = absurd (both_false (is_no_index i) e)
direct_said None base.Pc i true e h = absurd (both_false (is_no_index i) e)
direct_said (Some d) b i true e h = rw (no_index_is i (both _ _ e).0) refl
direct_said None (base.NoAddress n) i false e h = refl
direct_said None base.NoPc i false e h = refl
direct_said None (base.Address n) i false e h = rw h refl
direct_said None base.Pc i false e h = rw h refl
direct_said (Some d) b i false e h = refl

-- what is made of a group behind `(`
abbrev direct_of : GroupRead × List Word → Option (Mode Sum × List Word)
direct_of read = close_at read.1 >>= (λ rest. direct_mode read.0 >>= (λ direct. Some (stepped direct rest)))

direct_by : (d : Option (Displacement ℤ)) (b : Base) (i : Index) (left : Bool) (p : ℕ) (behind : List Word)
    → is_left_out (form d b i indirection.Direct None) ≡ left → (asks_full (form d b i indirection.Direct None) || i.is_dropped) ≡ true
    → mode_at (said (full_lexemes indirection.Direct d b (if left then None else Some i) None) p behind)
    ≡ Some (mode.Full (valued_form sum_of (form d b i indirection.Direct None)), behind)
direct_by d b i left p behind e h =
    let x : Option Index = if left then None else Some i in
    let q = p + 1 in
    let end : List Word = word.Close ∷ behind in
    let parts : said (group_lexemes d b x ++ close_mark ∷ []) q behind ≡ said (group_lexemes d b x) q end =
    said_append (group_lexemes d b x) (close_mark ∷ []) q behind in
    let read : group_at (said (group_lexemes d b x ++ close_mark ∷ []) q behind) ≡ (group d b x, end) =
    ap group_at parts ∙ group_read d b x q end refl in
    let starts : begins_group (said (group_lexemes d b x ++ close_mark ∷ []) q behind) ≡ true =
    ap begins_group parts ∙ group_begins d b x q end in
    direct_opened (said (group_lexemes d b x ++ close_mark ∷ []) q behind) starts ∙ ap direct_of read ∙ rw (direct_said d b i left e h) refl

-- ---- forms with brackets

-- what is made of a group behind `([`, with the index behind its bracket, and with the outer displacement
abbrev closed_of : GroupRead → Option Index → Option SizedRead × List Word → Option (Mode Sum × List Word)
closed_of parts index outer =
    option_map (λ behind. (mode.Full (full (post_indexed parts index) (read_at index) outer.0), behind)) (close_at outer.1)

abbrev indexed_of : GroupRead → Option Index × List Word → Option (Mode Sum × List Word)
indexed_of parts index = closed_of parts index.0 (outer_at index.1)

abbrev indirect_of : GroupRead × List Word → Option (Mode Sum × List Word)
indirect_of read = close_square_at read.1 >>= (λ rest. indexed_of read.0 (index_behind_brackets read.0 rest))

outer_by : (e : ℤ) (w : Width) (p : ℕ) (behind : List Word)
    → outer_at (said (outer_lexemes (Some (displacement e w)) ++ close_mark ∷ []) p behind) ≡ (Some (sized_of (displacement e w)), word.Close ∷ behind)
outer_by (pos n) width.Word p behind = refl
outer_by (pos n) width.Long p behind = refl
outer_by (negsuc n) width.Word p behind = refl
outer_by (negsuc n) width.Long p behind = refl

outer_read : (o : Option (Displacement ℤ)) (p : ℕ) (behind : List Word)
    → outer_at (said (outer_lexemes o ++ close_mark ∷ []) p behind) ≡ (option_map sized_of o, word.Close ∷ behind)
outer_read None p behind = refl
outer_read (Some d) p behind = outer_by d.value d.width p behind

no_index_by_value : (e : ℤ) (w : Width) (p : ℕ) (behind : List Word)
    → index_part false (said (outer_lexemes (Some (displacement e w)) ++ close_mark ∷ []) p behind)
    ≡ (None, said (outer_lexemes (Some (displacement e w)) ++ close_mark ∷ []) p behind)
no_index_by_value (pos n) w p behind = refl
no_index_by_value (negsuc n) w p behind = refl

-- no index stands before an outer displacement
outer_is_no_index : (o : Option (Displacement ℤ)) (p : ℕ) (behind : List Word)
    → index_part false (said (outer_lexemes o ++ close_mark ∷ []) p behind) ≡ (None, said (outer_lexemes o ++ close_mark ∷ []) p behind)
outer_is_no_index None p behind = refl
outer_is_no_index (Some d) p behind = no_index_by_value d.value d.width p behind

-- nor a size or a scale
outer_ends : (o : Option (Displacement ℤ)) (p : ℕ) (behind : List Word) → ends_register (said (outer_lexemes o ++ close_mark ∷ []) p behind) ≡ true
outer_ends None p behind = refl
outer_ends (Some d) p behind = refl

pre_said : (d : Option (Displacement ℤ)) (b : Base) (i : Index) (left : Bool) (o : Option (Displacement ℤ))
    → is_left_out (form d b i indirection.PreIndexed o) ≡ left
    → full (post_indexed (group d b (if left then None else Some i)) None) indirection.PreIndexed (option_map sized_of o)
    ≡ valued_form sum_of (form d b i indirection.PreIndexed o)
pre_said d b i true o e = rw (displaced_read d, displaced_read o, no_index_is i (both _ _ e).0) refl
pre_said d b i false o e = rw (displaced_read d, displaced_read o) refl

abbrev pre_lexemes : Option (Displacement ℤ) → Base → Option Index → Option (Displacement ℤ) → List Lexeme
pre_lexemes d b x o = group_lexemes d b x ++ (close_square ∷ outer_lexemes o ++ close_mark ∷ [])

pre_group : (d : Option (Displacement ℤ)) (b : Base) (x : Option Index) (o : Option (Displacement ℤ)) (q : ℕ) (behind : List Word)
    → group_at (said (pre_lexemes d b x o) q behind)
    ≡ (group d b x, word.CloseSquare ∷ said (outer_lexemes o ++ close_mark ∷ []) (after q (group_lexemes d b x) + 1) behind)
pre_group d b x o q behind =
    let rest : List Word = said (outer_lexemes o ++ close_mark ∷ []) (after q (group_lexemes d b x) + 1) behind in
    ap group_at (said_append (group_lexemes d b x) (close_square ∷ outer_lexemes o ++ close_mark ∷ []) q behind)
    ∙ group_read d b x q (word.CloseSquare ∷ rest) refl

pre_by : (d : Option (Displacement ℤ)) (b : Base) (i : Index) (left : Bool) (o : Option (Displacement ℤ)) (p : ℕ) (behind : List Word)
    → is_left_out (form d b i indirection.PreIndexed o) ≡ left
    → mode_at (said (full_lexemes indirection.PreIndexed d b (if left then None else Some i) o) p behind)
    ≡ Some (mode.Full (valued_form sum_of (form d b i indirection.PreIndexed o)), behind)
pre_by d b i true o p behind e =
    let r = after (p + 1 + 1) (group_lexemes d b None) + 1 in
    ap indirect_of (pre_group d b None o (p + 1 + 1) behind)
    ∙ ap (indexed_of (group d b None)) (outer_is_no_index o r behind)
    ∙ ap (closed_of (group d b None) None) (outer_read o r behind)
    ∙ ap (λ (f : FullForm Sum). Some (mode.Full f, behind)) (pre_said d b i true o e)
pre_by d b i false o p behind e =
    let r = after (p + 1 + 1) (group_lexemes d b (Some i)) + 1 in
    ap indirect_of (pre_group d b (Some i) o (p + 1 + 1) behind)
    ∙ ap (closed_of (group d b (Some i)) None) (outer_read o r behind)
    ∙ ap (λ (f : FullForm Sum). Some (mode.Full f, behind)) (pre_said d b i false o e)

post_by : (d : Option (Displacement ℤ)) (b : Base) (i : Index) (o : Option (Displacement ℤ)) (p : ℕ) (behind : List Word)
    → mode_at (said (full_lexemes indirection.PostIndexed d b (Some i) o) p behind)
    ≡ Some (mode.Full (valued_form sum_of (form d b i indirection.PostIndexed o)), behind)
post_by d b i o p behind =
    let q = p + 1 + 1 in
    let t = after q (group_lexemes d b None) + 1 + 1 in
    let u = after t (index_lexemes i) in
    let outer : List Word = said (outer_lexemes o ++ close_mark ∷ []) u behind in
    let closing : List Lexeme = outer_lexemes o ++ close_mark ∷ [] in
    let index_words : List Word = said (index_lexemes i ++ closing) t behind in
    let rest : List Word = word.CloseSquare ∷ word.Comma ∷ index_words in
    let tail : List Lexeme = close_square ∷ comma ∷ index_lexemes i ++ closing in
    let read : group_at (said (group_lexemes d b None ++ tail) q behind) ≡ (group d b None, rest) =
    ap group_at (said_append (group_lexemes d b None) tail q behind) ∙ group_read d b None q rest refl in
    let indexed : index_at index_words ≡ Some (i, outer) =
    ap index_at (said_append (index_lexemes i) closing t behind) ∙ index_read i t outer (outer_ends o u behind) in
    let part : index_part false (word.Comma ∷ index_words) ≡ (Some i, outer) =
    ap (λ (found : Option (Index × List Word)). optional found (word.Comma ∷ index_words)) indexed in
    ap indirect_of read ∙ ap (indexed_of (group d b None)) part ∙ ap (closed_of (group d b None) (Some i)) (outer_read o u behind)
    ∙ rw (displaced_read d, displaced_read o) refl

none_is : {A : Type 0} (o : Option A) → not (is_some o) ≡ true → o ≡ None
none_is None h = refl
none_is (Some x) h = absurd cc

full_by : (d : Option (Displacement ℤ)) (b : Base) (i : Index) (k : Indirection) (o : Option (Displacement ℤ)) (left : Bool) (p : ℕ) (behind : List Word)
    → is_left_out (form d b i k o) ≡ left → says_full (form d b i k o) ≡ true
    → mode_at (said (full_lexemes k d b (if left then None else Some i) o) p behind) ≡ Some (mode.Full (valued_form sum_of (form d b i k o)), behind)
full_by d b i indirection.Direct o left p behind e h =
    let parts = both (asks_full (form d b i indirection.Direct o) || i.is_dropped) (not (is_some o)) h in
    rw (none_is o parts.1) (direct_by d b i left p behind e parts.0)
full_by d b i indirection.PreIndexed o left p behind e h = pre_by d b i left o p behind e
full_by d b i indirection.PostIndexed o false p behind e h = post_by d b i o p behind
full_by d b i indirection.PostIndexed o true p behind e h = absurd (let n : not true ≡ true = ap not (sym e) ∙ h in cc)

full_read : (f : FullForm ℤ) (p : ℕ) (behind : List Word) → says_full f ≡ true
    → mode_at (said (full_lexemes f.indirection f.displacement f.base (written_index f) f.outer) p behind)
    ≡ Some (mode.Full (valued_form sum_of f), behind)
full_read f p behind h = full_by f.displacement f.base f.index f.indirection f.outer (is_left_out f) p behind refl h

-- ---- modes

abbrev pub absolute_width : Option Width → List Lexeme
absolute_width None = []
absolute_width (Some w) = dot ∷ size (width_letter w) ∷ []

abbrev pub mode_lexemes : Mode ℤ → List Lexeme
mode_lexemes (mode.Data n) = reg (register.Data n) ∷ []
mode_lexemes (mode.Address n) = reg (register.Address n) ∷ []
mode_lexemes (mode.Indirect n) = open_mark ∷ reg (register.Address n) ∷ close_mark ∷ []
mode_lexemes (mode.PostIncrement n) = open_mark ∷ reg (register.Address n) ∷ close_mark ∷ plus ∷ []
mode_lexemes (mode.PreDecrement n) = minus ∷ open_mark ∷ reg (register.Address n) ∷ close_mark ∷ []
mode_lexemes (mode.Displaced n e) = open_mark ∷ value e ++ comma ∷ reg (register.Address n) ∷ close_mark ∷ []
mode_lexemes (mode.Indexed n e i) =
    open_mark ∷ value e ++ (comma ∷ reg (register.Address n) ∷ comma ∷ index_lexemes i ++ close_mark ∷ [])
mode_lexemes (mode.Absolute e w) = value e ++ absolute_width w
mode_lexemes (mode.PcDisplaced e) = open_mark ∷ value e ++ comma ∷ reg register.Pc ∷ close_mark ∷ []
mode_lexemes (mode.PcIndexed e i) = open_mark ∷ value e ++ (comma ∷ reg register.Pc ∷ comma ∷ index_lexemes i ++ close_mark ∷ [])
mode_lexemes (mode.Full f) = full_lexemes f.indirection f.displacement f.base (written_index f) f.outer
mode_lexemes (mode.Immediate e) = hash ∷ value e

not_dropped : (i : Index) → is_index i ≡ true → i.is_dropped ≡ false
not_dropped i h = not_true i.is_dropped (both (not i.is_dropped) (is_register i.register) h).0

-- the place behind `(e,`, a register and `,`
abbrev indexed_at : ℕ → ℤ → Register → ℕ
indexed_at p e r = after p (open_mark ∷ value e ++ comma ∷ reg r ∷ comma ∷ [])

pub mode_read : (m : Mode ℤ) (p : ℕ) (behind : List Word) → is_mode m ≡ true → stops behind ≡ true
    → mode_at (said (mode_lexemes m) p behind) ≡ Some (valued_mode sum_of m, behind)
mode_read (mode.Data n) p behind h s = refl
mode_read (mode.Address n) p behind h s = refl
mode_read (mode.Indirect n) p behind h s = rw (stepped_end n behind s) refl
mode_read (mode.PostIncrement n) p behind h s = refl
mode_read (mode.PreDecrement n) p behind h s = refl
mode_read (mode.Displaced n (pos e)) p behind h s = refl
mode_read (mode.Displaced n (negsuc e)) p behind h s = refl
mode_read (mode.Indexed n (pos e) i) p behind h s =
    let dropped : i.is_dropped ≡ false = not_dropped i (both _ (is_index i) h).1 in
    rw (index_before i close_mark (indexed_at p (pos e) (register.Address n)) behind refl, dropped) refl
mode_read (mode.Indexed n (negsuc e) i) p behind h s =
    let dropped : i.is_dropped ≡ false = not_dropped i (both _ (is_index i) h).1 in
    rw (index_before i close_mark (indexed_at p (negsuc e) (register.Address n)) behind refl, dropped) refl
mode_read (mode.Absolute (pos e) None) p behind h s = rw (terms_end behind (stops_sum behind s), width_end behind s) refl
mode_read (mode.Absolute (negsuc e) None) p behind h s = rw (terms_end behind (stops_sum behind s), width_end behind s) refl
mode_read (mode.Absolute (pos e) (Some width.Word)) p behind h s = refl
mode_read (mode.Absolute (pos e) (Some width.Long)) p behind h s = refl
mode_read (mode.Absolute (negsuc e) (Some width.Word)) p behind h s = refl
mode_read (mode.Absolute (negsuc e) (Some width.Long)) p behind h s = refl
mode_read (mode.PcDisplaced (pos e)) p behind h s = refl
mode_read (mode.PcDisplaced (negsuc e)) p behind h s = refl
mode_read (mode.PcIndexed (pos e) i) p behind h s =
    let dropped : i.is_dropped ≡ false = not_dropped i (both _ (is_index i) h).1 in
    rw (index_before i close_mark (indexed_at p (pos e) register.Pc) behind refl, dropped) refl
mode_read (mode.PcIndexed (negsuc e) i) p behind h s =
    let dropped : i.is_dropped ≡ false = not_dropped i (both _ (is_index i) h).1 in
    rw (index_before i close_mark (indexed_at p (negsuc e) register.Pc) behind refl, dropped) refl
mode_read (mode.Full f) p behind h s = full_read f p behind (both _ (says_full f) h).1
mode_read (mode.Immediate e) p behind h s = rw (sum_read e (p + 1) behind (stops_sum behind s)) refl
