-- A number that is not known counts as one in range: where the numbers are in range, they are so with it too.
use Rattle.std.proofs.Common.{◌≡◌, ℕ, ◌+◌, ◌*◌, ◌-◌, ◌%◌, ◌^◌, ◌<◌, ◌≤◌, ◌⊎◌, inl, inr, Bool, true, false, List, [], ◌∷◌, ◌++◌, length, map, Option, None, Some, refl}
use Rattle.std.proofs.Common.{sym, ◌∙◌, subst, is_some}
use Rattle.std.proofs.Common.{arith, true≢false, zero-le, Ok, Err, Result}
use Rattle.std.proofs.lemmas.Bool.Decides.{nat_tests}
use Rattle.std.specs.Prelude.{ℤ, pos, ◌==◌, ◌&&◌, nat_le, option_map, option_and_then, if◌then◌else◌}
use Rattle.std.specs.Option.{ok_or, option_or}
use Rattle.std.specs.List.{list_all}
use Rattle.mb_instr.specs.declared.size.Size.{Size}
use Rattle.mb_instr.specs.declared.size.Size.TheVariants as size
use Rattle.mb_instr.specs.declared.instruction.Instr.{Instr}
use Rattle.mb_instr.specs.Sizes.{low_of, sign_extended}
use Rattle.mb_syntax.specs.declared.statement.SizeLetter.{SizeLetter}
use Rattle.mb_syntax.specs.declared.mode.Base.{Base}
use Rattle.mb_syntax.specs.declared.mode.Base.TheVariants as base
use Rattle.mb_syntax.specs.declared.mode.Displacement.{Displacement}
use Rattle.mb_syntax.specs.declared.mode.FullForm.{FullForm}
use Rattle.mb_syntax.specs.declared.mode.Indirection.{Indirection}
use Rattle.mb_syntax.specs.declared.mode.Indirection.TheVariants.{Direct, PreIndexed, PostIndexed}
use Rattle.mb_syntax.specs.declared.mode.Mode.{Mode}
use Rattle.mb_syntax.specs.declared.mode.Mode.TheVariants as mode
use Rattle.mb_syntax.specs.declared.mode.Width.TheVariants as width
use Rattle.mb_syntax.specs.declared.operand.Operand.{Operand}
use Rattle.mb_syntax.specs.declared.operand.Operand.TheVariants as operand
use Rattle.mb_syntax.specs.declared.operand.BitField.{BitField}
use Rattle.mb_syntax.specs.declared.operand.FieldNumber.{FieldNumber}
use Rattle.mb_syntax.specs.declared.operand.FieldNumber.TheVariants as field_number
use Rattle.mb_syntax.specs.Modes.{Sum}
use Rattle.mb_mnemonics.specs.declared.fault.MeansFault.{MeansFault}
use Rattle.mb_mnemonics.specs.declared.fault.MeansFault.TheVariants as fault
use Rattle.mb_mnemonics.specs.declared.pattern.Pattern.{Pattern}
use Rattle.mb_mnemonics.specs.declared.pattern.Pattern.TheVariants as pattern
use Rattle.mb_mnemonics.specs.declared.range.Range.{Range}
use Rattle.mb_mnemonics.specs.declared.range.Range.TheVariants as range
use Rattle.mb_mnemonics.specs.declared.line.Line.{Line}
use Rattle.mb_mnemonics.specs.Lines.{condition_by, lines, patterns_of}
use Rattle.mb_mnemonics.specs.Means.{Form, form_among, form_by, is_named, meaning, meaning_by, said, size_by, told, words_said}
use Rattle.mb_instr.specs.Operands.{immediate, long_words}
use Rattle.mb_mnemonics.specs.Modes.{base_displacement, brief, displacement_words, extension_words, from_pc, full, full_word, is_word, mode_words, outer_of}
use Rattle.mb_mnemonics.specs.Modes.{immediate_words, lower_of, plain, words_of}
use Rattle.mb_mnemonics.specs.Operands.{field_bits, field_part, is_displaced, is_immediate_form, is_long_address, is_target, operand_words}
use Rattle.mb_mnemonics.specs.Operands.{takes_operand, Said, in_first, in_second, in_own, together, quick_bits, reach_said, source_bits}
use Rattle.mb_mnemonics.specs.Operands.{takes_operands, value_of, destination_bits, ea_said, mode_said, operand_said, operands_said}
use Rattle.mb_mnemonics.specs.Ranges.{branch, displacement, distance, immediate_range, number}
use Rattle.mb_mnemonics.specs.Sizes.{size_in}
use Rattle.mb_mnemonics.specs.Values.{valued, valued_displacement, valued_field, valued_form, valued_mode, valued_number}
use Rattle.mb_mnemonics.proofs.ModeWords.{chained, mapped, if_some}
use Rattle.mb_mnemonics.proofs.Names.{told_in}
use Rattle.mb_mnemonics.proofs.SameForm.{form_of_same, operand_words_same}
use Rattle.mb_asm.specs.Bytes.{is_out}
use Rattle.mb_asm.specs.Values.{Scope, value_or_one, with_all_known, filled_base, filled_mode, target}
use Rattle.mb_mnemonics.proofs.Length.{form_at, le_is}
use Rattle.mb_instr.proofs.Ranges.{and_is}

-- ---- numbers

-- a number beside another: the same, or one that every range has
abbrev pub IsNumber : ℤ → ℤ → Type 0
IsNumber u v = (u ≡ v) ⊎ (u ≡ pos 1)

-- a place near an address
abbrev pub near_at : ℕ → ℤ
near_at i = pos ((i + 4) % 4294967296)

-- a target beside another, in statements at two addresses: the same in one place, or a near one
abbrev pub IsTarget : ℕ → ℕ → ℤ → ℤ → Type 0
IsTarget i j u v = ((i ≡ j) × (u ≡ v)) ⊎ (u ≡ near_at i)

number_one : (r : Range) → is_some (number r (pos 1)) ≡ true
number_one range.Byte = refl
number_one range.Word = refl
number_one range.Long = refl
number_one range.Displacement8 = refl
number_one range.Displacement16 = refl
number_one range.Count = refl
number_one range.Vector = refl
number_one range.Offset = refl
number_one range.Width = refl

number_near : (r : Range) (u v : ℤ) → IsNumber u v → is_some (number r v) ≡ true → is_some (number r u) ≡ true
number_near r u v (inl e) h = rw e h
number_near r u v (inr e) h = rw e (number_one r)

long_near : (n : ℕ) → n < 4294967296 → is_some (number range.Long (pos n)) ≡ true
long_near n h =
    let e : nat_le n 4294967295 ≡ true = grind (arith, nat_tests) in
    rw e refl

long_target : (i j : ℕ) (u v : ℤ) → IsTarget i j u v → is_some (number range.Long v) ≡ true → is_some (number range.Long u) ≡ true
long_target i j u v (inl e) h = rw e.1 h
long_target i j u v (inr e) h = rw e (long_near ((i + 4) % 4294967296) (omega arith))

distance_near : (i c : ℕ) → c ≤ 60 → distance ((i + c) % 4294967296) (near_at i) ≡ (4294967300 - c) % 4294967296
distance_near i c h = omega arith

extended_byte : (c : ℕ) → c ≤ 60 → sign_extended size.Byte ((4294967300 - c) % 4294967296) ≡ (4294967300 - c) % 4294967296
extended_byte c h = grind (arith, nat_tests)

extended_word : (c : ℕ) → c ≤ 60 → sign_extended size.Word ((4294967300 - c) % 4294967296) ≡ (4294967300 - c) % 4294967296
extended_word c h = grind (arith, nat_tests)

extended_long : (c : ℕ) → c ≤ 60 → sign_extended size.Long ((4294967300 - c) % 4294967296) ≡ (4294967300 - c) % 4294967296
extended_long c h = grind (arith, nat_tests)

extended : (s : Size) (c : ℕ) → c ≤ 60 → sign_extended s ((4294967300 - c) % 4294967296) ≡ (4294967300 - c) % 4294967296
extended size.Byte c h = extended_byte c h
extended size.Word c h = extended_word c h
extended size.Long c h = extended_long c h

same_is : (m n : ℕ) → m ≡ n → (m == n) ≡ true
same_is m n h = grind (arith, nat_tests)

reached : (s : Size) (i c : ℕ) → c ≤ 60
    → displacement s ((i + c) % 4294967296) (near_at i) ≡ Some (low_of s ((4294967300 - c) % 4294967296))
reached s i c h =
    let d = (4294967300 - c) % 4294967296 in
    let e : (sign_extended s d == d) ≡ true = same_is (sign_extended s d) d (extended s c h) in
    rw (distance_near i c h, e) refl

displacement_near : (s : Size) (i j c : ℕ) (u v : ℤ) → c ≤ 60 → IsTarget i j u v → is_some (displacement s ((j + c) % 4294967296) v) ≡ true
    → is_some (displacement s ((i + c) % 4294967296) u) ≡ true
displacement_near s i j c u v h (inl e) k = rw (e.0, e.1) k
displacement_near s i j c u v h (inr e) k = rw (e, reached s i c h) refl

branch_reached : (s : Size) (i : ℕ) → is_some (branch s i (near_at i)) ≡ true
branch_reached size.Byte i = rw (reached size.Byte i 2 (omega arith)) refl
branch_reached size.Word i = rw (reached size.Word i 2 (omega arith)) refl
branch_reached size.Long i = rw (reached size.Long i 2 (omega arith)) refl

branch_near : (s : Size) (i j : ℕ) (u v : ℤ) → IsTarget i j u v → is_some (branch s j v) ≡ true → is_some (branch s i u) ≡ true
branch_near s i j u v (inl e) h = rw (e.0, e.1) h
branch_near s i j u v (inr e) h = rw e (branch_reached s i)

-- ---- marks

-- A number of an operand, and whether it is a target: of an address without a width, which a branch has, or relative to
-- the PC.
pub record Marked : Type 0 where
  pub is_target : Bool
  pub terms : Sum

abbrev pub mark : Bool → Sum → Marked
mark is_target terms = record { is_target = is_target; terms = terms }

abbrev pub marked_displacement : Bool → Displacement Sum → Displacement Marked
marked_displacement is_target d = record { value = mark is_target d.value; width = d.width }

abbrev pub is_pc : Base → Bool
is_pc (base.Address n) = false
is_pc (base.NoAddress n) = false
is_pc base.Pc = true
is_pc base.NoPc = false

abbrev pub marked_form : FullForm Sum → FullForm Marked
marked_form f = record {
  displacement = option_map (marked_displacement (is_pc f.base)) f.displacement;
  base = f.base;
  index = f.index;
  indirection = f.indirection;
  outer = option_map (marked_displacement false) f.outer;
}

abbrev pub marked_mode : Mode Sum → Mode Marked
marked_mode (mode.Data n) = mode.Data n
marked_mode (mode.Address n) = mode.Address n
marked_mode (mode.Indirect n) = mode.Indirect n
marked_mode (mode.PostIncrement n) = mode.PostIncrement n
marked_mode (mode.PreDecrement n) = mode.PreDecrement n
marked_mode (mode.Displaced n e) = mode.Displaced n (mark false e)
marked_mode (mode.Indexed n e i) = mode.Indexed n (mark false e) i
marked_mode (mode.Absolute e None) = mode.Absolute (mark true e) None
marked_mode (mode.Absolute e (Some w)) = mode.Absolute (mark false e) (Some w)
marked_mode (mode.PcDisplaced e) = mode.PcDisplaced (mark true e)
marked_mode (mode.PcIndexed e i) = mode.PcIndexed (mark true e) i
marked_mode (mode.Full f) = mode.Full (marked_form f)
marked_mode (mode.Immediate e) = mode.Immediate (mark false e)

abbrev pub marked_number : FieldNumber Sum → FieldNumber Marked
marked_number (field_number.Data n) = field_number.Data n
marked_number (field_number.Number e) = field_number.Number (mark false e)

abbrev pub marked : Operand Sum → Operand Marked
marked (operand.Mode m) = operand.Mode (marked_mode m)
marked (operand.Field m f) = operand.Field (marked_mode m) (record { offset = marked_number f.offset; width = marked_number f.width })
marked operand.Sr = operand.Sr
marked operand.Ccr = operand.Ccr
marked (operand.Control c) = operand.Control c
marked (operand.List l) = operand.List l
marked (operand.Pair n m) = operand.Pair n m
marked (operand.IndirectPair n m) = operand.IndirectPair n m
marked (operand.Caches c) = operand.Caches c
marked (operand.Text t) = operand.Text t

-- values of marked numbers beside others, in statements at two addresses
pub record Fills (i j : ℕ) (f g : Marked → ℤ) : Type 0 where
  pub number : (e : Sum) → IsNumber (f (mark false e)) (g (mark false e))
  pub target : (e : Sum) → IsTarget i j (f (mark true e)) (g (mark true e))

-- ---- operands of a mode

map_some : {A B : Type 0} (h k : A → B) (x y : Option A) → (is_some y ≡ true → is_some x ≡ true) → is_some (option_map k y) ≡ true
    → is_some (option_map h x) ≡ true
map_some h k (Some x) y m e = refl
map_some h k None (Some y) m e = absurd (true≢false (sym (m refl)))
map_some h k None None m e = absurd cc

two_some : {A B C : Type 0} (h k : A → B → C) (x y : Option A) (p q : Option B) → (is_some y ≡ true → is_some x ≡ true)
    → (is_some q ≡ true → is_some p ≡ true) → is_some (option_and_then (λ (a : A). option_map (k a) q) y) ≡ true
    → is_some (option_and_then (λ (a : A). option_map (h a) p) x) ≡ true
two_some h k (Some x) (Some y) p q m n e = map_some (h x) (k y) p q n e
two_some h k (Some x) None p q m n e = absurd cc
two_some h k None (Some y) p q m n e = absurd (true≢false (sym (m refl)))
two_some h k None None p q m n e = absurd cc

plain_near : (i j : ℕ) (f g : Marked → ℤ) (d : Option (Displacement Sum)) → Fills i j f g
    → is_some (plain (option_map (valued_displacement g) (option_map (marked_displacement false) d))) ≡ true
    → is_some (plain (option_map (valued_displacement f) (option_map (marked_displacement false) d))) ≡ true
plain_near i j f g None fills h = refl
plain_near i j f g (Some d) fills h =
    let r : Range = elim d.width [ width.Word ↦ range.Displacement16 | width.Long ↦ range.Long ] in
    map_some (words_of d.width) (words_of d.width) (number r (f (mark false d.value))) (number r (g (mark false d.value)))
    (number_near r (f (mark false d.value)) (g (mark false d.value)) (fills.number d.value)) h

pc_near : (i j c : ℕ) (f g : Marked → ℤ) (d : Option (Displacement Sum)) → c ≤ 60 → Fills i j f g
    → is_some (from_pc ((j + c) % 4294967296) (option_map (valued_displacement g) (option_map (marked_displacement true) d))) ≡ true
    → is_some (from_pc ((i + c) % 4294967296) (option_map (valued_displacement f) (option_map (marked_displacement true) d))) ≡ true
pc_near i j c f g None small fills h = refl
pc_near i j c f g (Some d) small fills h =
    let s : Size = elim d.width [ width.Word ↦ size.Word | width.Long ↦ size.Long ] in
    map_some (words_of d.width) (words_of d.width) (displacement s ((i + c) % 4294967296) (f (mark true d.value)))
    (displacement s ((j + c) % 4294967296) (g (mark true d.value)))
    (displacement_near s i j c (f (mark true d.value)) (g (mark true d.value)) small (fills.target d.value)) h

outer_near : (i j : ℕ) (f g : Marked → ℤ) (k : Indirection) (d : Option (Displacement Sum)) → Fills i j f g
    → is_some (plain (elim k [
      | Direct ↦ None
      | PreIndexed ↦ option_map (valued_displacement g) (option_map (marked_displacement false) d)
      | PostIndexed ↦ option_map (valued_displacement g) (option_map (marked_displacement false) d)
    ])) ≡ true
    → is_some (plain (elim k [
      | Direct ↦ None
      | PreIndexed ↦ option_map (valued_displacement f) (option_map (marked_displacement false) d)
      | PostIndexed ↦ option_map (valued_displacement f) (option_map (marked_displacement false) d)
    ])) ≡ true
outer_near i j f g Direct d fills h = refl
outer_near i j f g PreIndexed d fills h = plain_near i j f g d fills h
outer_near i j f g PostIndexed d fills h = plain_near i j f g d fills h

-- a full form's values, with another base
abbrev pub based : (Marked → ℤ) → Base → FullForm Sum → FullForm ℤ
based value b t = record (valued_form value (marked_form t)) {
  base = b;
  displacement = option_map (valued_displacement value) (option_map (marked_displacement (is_pc b)) t.displacement);
}

based_near : (i j c : ℕ) (f g : Marked → ℤ) (b : Base) (t : FullForm Sum) → c ≤ 60 → Fills i j f g
    → is_some (base_displacement ((j + c) % 4294967296) (based g b t)) ≡ true
    → is_some (base_displacement ((i + c) % 4294967296) (based f b t)) ≡ true
based_near i j c f g (base.Address n) t small fills h = plain_near i j f g t.displacement fills h
based_near i j c f g (base.NoAddress n) t small fills h = plain_near i j f g t.displacement fills h
based_near i j c f g base.Pc t small fills h = pc_near i j c f g t.displacement small fills h
based_near i j c f g base.NoPc t small fills h = plain_near i j f g t.displacement fills h

full_near : (i j c : ℕ) (f g : Marked → ℤ) (t : FullForm Sum) → c ≤ 60 → Fills i j f g
    → is_some (full ((j + c) % 4294967296) (valued_form g (marked_form t))) ≡ true
    → is_some (full ((i + c) % 4294967296) (valued_form f (marked_form t))) ≡ true
full_near i j c f g t small fills h =
    let a = valued_form f (marked_form t) in
    let b = valued_form g (marked_form t) in
    two_some (λ bd od. full_word a ∷ bd ++ od) (λ bd od. full_word b ∷ bd ++ od) (base_displacement ((i + c) % 4294967296) a)
    (base_displacement ((j + c) % 4294967296) b) (plain (outer_of a)) (plain (outer_of b))
    (based_near i j c f g t.base t small fills) (outer_near i j f g t.indirection t.outer fills) h

ea_near : (s : Size) (i j c : ℕ) (f g : Marked → ℤ) (m : Mode Sum) → c ≤ 60 → Fills i j f g
    → is_some (extension_words s ((j + c) % 4294967296) (valued_mode g (marked_mode m))) ≡ true
    → is_some (extension_words s ((i + c) % 4294967296) (valued_mode f (marked_mode m))) ≡ true
ea_near s i j c f g (mode.Displaced n e) small fills h =
    map_some (λ d. d ∷ []) (λ d. d ∷ []) (number range.Displacement16 (f (mark false e))) (number range.Displacement16 (g (mark false e)))
    (number_near range.Displacement16 (f (mark false e)) (g (mark false e)) (fills.number e)) h
ea_near s i j c f g (mode.Indexed n e x) small fills h =
    map_some (λ d. brief x d ∷ []) (λ d. brief x d ∷ []) (number range.Displacement8 (f (mark false e))) (number range.Displacement8 (g
    (mark false e)))
    (number_near range.Displacement8 (f (mark false e)) (g (mark false e)) (fills.number e)) h
ea_near s i j c f g (mode.Absolute e None) small fills h =
    map_some long_words long_words (number range.Long (f (mark true e))) (number range.Long (g (mark true e)))
    (long_target i j (f (mark true e)) (g (mark true e)) (fills.target e)) h
ea_near s i j c f g (mode.Absolute e (Some width.Word)) small fills h =
    map_some (λ a. a ∷ []) (λ a. a ∷ []) (number range.Word (f (mark false e))) (number range.Word (g (mark false e)))
    (number_near range.Word (f (mark false e)) (g (mark false e)) (fills.number e)) h
ea_near s i j c f g (mode.Absolute e (Some width.Long)) small fills h =
    map_some long_words long_words (number range.Long (f (mark false e))) (number range.Long (g (mark false e)))
    (number_near range.Long (f (mark false e)) (g (mark false e)) (fills.number e)) h
ea_near s i j c f g (mode.PcDisplaced e) small fills h =
    map_some (λ d. d ∷ []) (λ d. d ∷ []) (displacement size.Word ((i + c) % 4294967296) (f (mark true e)))
    (displacement size.Word ((j + c) % 4294967296) (g (mark true e)))
    (displacement_near size.Word i j c (f (mark true e)) (g (mark true e)) small (fills.target e)) h
ea_near s i j c f g (mode.PcIndexed e x) small fills h =
    map_some (λ d. brief x d ∷ []) (λ d. brief x d ∷ []) (displacement size.Byte ((i + c) % 4294967296) (f (mark true e)))
    (displacement size.Byte ((j + c) % 4294967296) (g (mark true e)))
    (displacement_near size.Byte i j c (f (mark true e)) (g (mark true e)) small (fills.target e)) h
ea_near s i j c f g (mode.Full t) small fills h = full_near i j c f g t small fills h
ea_near s i j c f g (mode.Immediate e) small fills h =
    map_some (immediate s) (immediate s) (number (immediate_range s) (f (mark false e))) (number (immediate_range s) (g (mark false e)))
    (number_near (immediate_range s) (f (mark false e)) (g (mark false e)) (fills.number e)) h
ea_near s i j c f g _ small fills h = refl

-- ---- what a mode says by its pattern

immediate_number : (i j : ℕ) (f g : Marked → ℤ) (m : Mode Sum) → Fills i j f g → is_immediate_form (valued_mode g (marked_mode m)) ≡ true
    → IsNumber (value_of (valued_mode f (marked_mode m))) (value_of (valued_mode g (marked_mode m)))
immediate_number i j f g (mode.Immediate e) fills takes = fills.number e
immediate_number i j f g (mode.Absolute e None) fills takes = absurd cc
immediate_number i j f g (mode.Absolute e (Some w)) fills takes = absurd cc
immediate_number i j f g _ fills takes = absurd cc

displaced_number : (i j : ℕ) (f g : Marked → ℤ) (m : Mode Sum) → Fills i j f g → is_displaced (valued_mode g (marked_mode m)) ≡ true
    → IsNumber (value_of (valued_mode f (marked_mode m))) (value_of (valued_mode g (marked_mode m)))
displaced_number i j f g (mode.Displaced n e) fills takes = fills.number e
displaced_number i j f g (mode.Absolute e None) fills takes = absurd cc
displaced_number i j f g (mode.Absolute e (Some w)) fills takes = absurd cc
displaced_number i j f g _ fills takes = absurd cc

target_place : (i j : ℕ) (f g : Marked → ℤ) (m : Mode Sum) → Fills i j f g → is_target (valued_mode g (marked_mode m)) ≡ true
    → IsTarget i j (value_of (valued_mode f (marked_mode m))) (value_of (valued_mode g (marked_mode m)))
target_place i j f g (mode.Absolute e None) fills takes = fills.target e
target_place i j f g (mode.Absolute e (Some w)) fills takes = absurd cc
target_place i j f g _ fills takes = absurd cc

absolute_long : (i j : ℕ) (f g : Marked → ℤ) (m : Mode Sum) → Fills i j f g → is_long_address (valued_mode g (marked_mode m)) ≡ true
    → is_some (number range.Long (value_of (valued_mode g (marked_mode m)))) ≡ true
    → is_some (number range.Long (value_of (valued_mode f (marked_mode m)))) ≡ true
absolute_long i j f g (mode.Absolute e None) fills takes h = long_target i j (f (mark true e)) (g (mark true e)) (fills.target e) h
absolute_long i j f g (mode.Absolute e (Some w)) fills takes h =
    number_near range.Long (f (mark false e)) (g (mark false e)) (fills.number e) h
absolute_long i j f g _ fills takes h = absurd cc

said_near_by : (s : Size) (i j c : ℕ) (f g : Marked → ℤ) (x y : ℕ) (m : Mode Sum) → c ≤ 60 → Fills i j f g
    → is_some (ea_said s ((j + c) % 4294967296) y (valued_mode g (marked_mode m))) ≡ true
    → is_some (ea_said s ((i + c) % 4294967296) x (valued_mode f (marked_mode m))) ≡ true
said_near_by s i j c f g x y m small fills h =
    map_some (λ ws. record { first = x; second = 0; third = 0; own = ws }) (λ ws. record { first = y; second = 0; third = 0; own = ws })
    (extension_words s ((i + c) % 4294967296) (valued_mode f (marked_mode m))) (extension_words s ((j + c) % 4294967296) (valued_mode g (marked_mode m)))
    (ea_near s i j c f g m small fills) h

mode_near : (p : Pattern) (s : Size) (i j c : ℕ) (f g : Marked → ℤ) (m : Mode Sum) → c ≤ 60 → Fills i j f g
    → takes_operand p s (operand.Mode (valued_mode g (marked_mode m))) ≡ true
    → is_some (mode_said p s j ((j + c) % 4294967296) (valued_mode g (marked_mode m))) ≡ true
    → is_some (mode_said p s i ((i + c) % 4294967296) (valued_mode f (marked_mode m))) ≡ true
mode_near (pattern.Mode class) s i j c f g m small fills takes h =
    said_near_by s i j c f g (source_bits (valued_mode f (marked_mode m))) (source_bits (valued_mode g (marked_mode m))) m small fills h
mode_near (pattern.Memory class) s i j c f g m small fills takes h =
    said_near_by s i j c f g (source_bits (valued_mode f (marked_mode m))) (source_bits (valued_mode g (marked_mode m))) m small fills h
mode_near pattern.DataMode s i j c f g m small fills takes h =
    said_near_by s i j c f g (source_bits (valued_mode f (marked_mode m))) (source_bits (valued_mode g (marked_mode m))) m small fills h
mode_near (pattern.Destination class) s i j c f g m small fills takes h =
    said_near_by s i j c f g (destination_bits (valued_mode f (marked_mode m))) (destination_bits (valued_mode g (marked_mode m))) m small fills h
mode_near (pattern.Data place) s i j c f g m small fills takes h = refl
mode_near (pattern.Address place) s i j c f g m small fills takes h = refl
mode_near (pattern.Register place) s i j c f g m small fills takes h = refl
mode_near (pattern.Indirect place) s i j c f g m small fills takes h = refl
mode_near (pattern.PostIncrement place) s i j c f g m small fills takes h = refl
mode_near (pattern.PreDecrement place) s i j c f g m small fills takes h = refl
mode_near pattern.RegisterList s i j c f g m small fills takes h = refl
mode_near pattern.ReversedList s i j c f g m small fills takes h = refl
mode_near pattern.Immediate s i j c f g m small fills takes h =
    let u = value_of (valued_mode f (marked_mode m)) in
    let v = value_of (valued_mode g (marked_mode m)) in
    map_some (λ n. in_own (immediate s n)) (λ n. in_own (immediate s n)) (number (immediate_range s) u) (number (immediate_range s) v)
    (number_near (immediate_range s) u v (immediate_number i j f g m fills takes)) h
mode_near (pattern.Quick r) s i j c f g m small fills takes h =
    let u = value_of (valued_mode f (marked_mode m)) in
    let v = value_of (valued_mode g (marked_mode m)) in
    map_some (λ n. in_first (quick_bits r n)) (λ n. in_first (quick_bits r n)) (number r u) (number r v)
    (number_near r u v (immediate_number i j f g m fills takes)) h
mode_near pattern.WordNumber s i j c f g m small fills takes h =
    let u = value_of (valued_mode f (marked_mode m)) in
    let v = value_of (valued_mode g (marked_mode m)) in
    map_some in_second in_second (number range.Word u) (number range.Word v)
    (number_near range.Word u v (immediate_number i j f g m fills takes)) h
mode_near (pattern.Distance reach) s i j c f g m small fills takes h =
    let u = value_of (valued_mode f (marked_mode m)) in
    let v = value_of (valued_mode g (marked_mode m)) in
    map_some (reach_said reach) (reach_said reach) (number (immediate_range reach) u) (number (immediate_range reach) v)
    (number_near (immediate_range reach) u v (immediate_number i j f g m fills takes)) h
mode_near (pattern.Target reach) s i j c f g m small fills takes h =
    let u = value_of (valued_mode f (marked_mode m)) in
    let v = value_of (valued_mode g (marked_mode m)) in
    map_some (reach_said reach) (reach_said reach) (branch reach i u) (branch reach j v)
    (branch_near reach i j u v (target_place i j f g m fills takes)) h
mode_near pattern.Displaced s i j c f g m small fills takes h =
    let u = value_of (valued_mode f (marked_mode m)) in
    let v = value_of (valued_mode g (marked_mode m)) in
    map_some (λ d. record { first = lower_of (valued_mode f (marked_mode m)) % 8; second = d; third = 0; own = [] })
    (λ d. record { first = lower_of (valued_mode g (marked_mode m)) % 8; second = d; third = 0; own = [] }) (number range.Displacement16 u)
    (number range.Displacement16 v) (number_near range.Displacement16 u v (displaced_number i j f g m fills takes)) h
mode_near pattern.Absolute s i j c f g m small fills takes h =
    let u = value_of (valued_mode f (marked_mode m)) in
    let v = value_of (valued_mode g (marked_mode m)) in
    map_some (λ n. in_own (long_words n)) (λ n. in_own (long_words n)) (number range.Long u) (number range.Long v)
    (absolute_long i j f g m fills takes) h
mode_near _ s i j c f g m small fills takes h = refl

part_near : (i j : ℕ) (f g : Marked → ℤ) (r : Range) (n : FieldNumber Sum) → Fills i j f g
    → is_some (field_part r (valued_number g (marked_number n))) ≡ true → is_some (field_part r (valued_number f (marked_number n))) ≡ true
part_near i j f g r (field_number.Data n) fills h = refl
part_near i j f g r (field_number.Number e) fills h = number_near r (f (mark false e)) (g (mark false e)) (fills.number e) h

abbrev pub marked_field : BitField Sum → BitField Marked
marked_field t = record { offset = marked_number t.offset; width = marked_number t.width }

bits_near : (i j : ℕ) (f g : Marked → ℤ) (t : BitField Sum) → Fills i j f g → is_some (field_bits (valued_field g (marked_field t))) ≡ true
    → is_some (field_bits (valued_field f (marked_field t))) ≡ true
bits_near i j f g t fills h =
    two_some (λ o w. o * 2 ^ 6 + w) (λ o w. o * 2 ^ 6 + w) (field_part range.Offset (valued_number f (marked_number t.offset)))
    (field_part range.Offset (valued_number g (marked_number t.offset))) (field_part range.Width (valued_number f (marked_number t.width)))
    (field_part range.Width (valued_number g (marked_number t.width)))
    (part_near i j f g range.Offset t.offset fills) (part_near i j f g range.Width t.width fills) h

operand_near : (p : Pattern) (s : Size) (i j c : ℕ) (f g : Marked → ℤ) (o : Operand Sum) → c ≤ 60 → Fills i j f g
    → takes_operand p s (valued g (marked o)) ≡ true
    → is_some (operand_said p s j ((j + c) % 4294967296) (valued g (marked o))) ≡ true
    → is_some (operand_said p s i ((i + c) % 4294967296) (valued f (marked o))) ≡ true
operand_near p s i j c f g (operand.Mode m) small fills takes h = mode_near p s i j c f g m small fills takes h
operand_near p s i j c f g (operand.Field m t) small fills takes h =
    two_some (λ w ws. record { first = source_bits (valued_mode f (marked_mode m)); second = w; third = 0; own = ws })
    (λ w ws. record { first = source_bits (valued_mode g (marked_mode m)); second = w; third = 0; own = ws }) (field_bits (valued_field f (marked_field t)))
    (field_bits (valued_field g (marked_field t))) (extension_words s ((i + c) % 4294967296) (valued_mode f (marked_mode m)))
    (extension_words s ((j + c) % 4294967296) (valued_mode g (marked_mode m))) (bits_near i j f g t fills) (ea_near s i j c f g m small fills) h
operand_near p s i j c f g _ small fills takes h = refl

-- ---- all operands

displacement_few : (d : Option (Displacement ℤ)) → displacement_words d ≤ 2
displacement_few None = zero-le
displacement_few (Some d) = elim d.width as (λ w. (elim w [ width.Word ↦ 1 | width.Long ↦ 2 ]) ≤ 2) [ width.Word ↦ omega arith | width.Long ↦ omega arith ]

immediate_few : (s : Size) → immediate_words s ≤ 5
immediate_few size.Byte = omega arith
immediate_few size.Word = omega arith
immediate_few size.Long = omega arith

mode_few : (s : Size) (m : Mode ℤ) → mode_words s m ≤ 5
unfolding mode_words
mode_few s (mode.Full t) =
    let a = displacement_few t.displacement in
    let b = displacement_few (outer_of t) in
    omega arith
mode_few s (mode.Absolute e w) = elim (is_word w) as (λ b. (if b then 1 else 2) ≤ 5) [ true ↦ omega arith | false ↦ omega arith ]
mode_few s (mode.Immediate e) = immediate_few s
mode_few s (mode.Displaced n e) = omega arith
mode_few s (mode.Indexed n e x) = omega arith
mode_few s (mode.PcDisplaced e) = omega arith
mode_few s (mode.PcIndexed e x) = omega arith
mode_few s _ = zero-le

words_few : (p : Pattern) (s : Size) (o : Operand ℤ) → operand_words p s o ≤ 5
words_few (pattern.Mode class) s (operand.Mode m) = mode_few s m
words_few (pattern.Destination class) s (operand.Mode m) = mode_few s m
words_few (pattern.Memory class) s (operand.Mode m) = mode_few s m
words_few (pattern.FieldMode class) s (operand.Field m t) = mode_few s m
words_few pattern.Immediate s o = immediate_few s
words_few (pattern.Distance size.Long) s o = omega arith
words_few (pattern.Distance size.Byte) s o = zero-le
words_few (pattern.Distance size.Word) s o = zero-le
words_few (pattern.Target size.Long) s o = omega arith
words_few (pattern.Target size.Byte) s o = zero-le
words_few (pattern.Target size.Word) s o = zero-le
words_few pattern.Absolute s o = omega arith
words_few _ s o = zero-le

further_on : (i c w : ℕ) → ((i + c) % 4294967296 + 2 * w) % 4294967296 ≡ (i + (c + 2 * w)) % 4294967296
further_on i c w = omega arith

then_some : {A B : Type 0} (h k : A → Option B) (x y : Option A) → (is_some y ≡ true → is_some x ≡ true)
    → ((u v : A) → is_some (k v) ≡ true → is_some (h u) ≡ true) → is_some (option_and_then k y) ≡ true → is_some (option_and_then h x) ≡ true
then_some h k (Some x) (Some y) m n e = n x y e
then_some h k (Some x) None m n e = absurd cc
then_some h k None (Some y) m n e = absurd (true≢false (sym (m refl)))
then_some h k None None m n e = absurd cc

operands_near : (ps : List Pattern) (s : Size) (i j c : ℕ) (f g : Marked → ℤ) (os : List (Operand Sum)) (a b : Said)
    → c + 10 * length ps ≤ 60 → Fills i j f g → takes_operands ps s (map (valued g) (map marked os)) ≡ true
    → is_some (operands_said ps s j ((j + c) % 4294967296) (map (valued g) (map marked os)) b) ≡ true
    → is_some (operands_said ps s i ((i + c) % 4294967296) (map (valued f) (map marked os)) a) ≡ true
operands_near [] s i j c f g os a b small fills takes h = refl
operands_near (p ∷ ps) s i j c f g [] a b small fills takes h = refl
operands_near (p ∷ ps) s i j c f g (o ∷ os) a b small fills takes h =
    let both = and_is (takes_operand p s (valued g (marked o))) (takes_operands ps s (map (valued g) (map marked os))) takes in
    let w = operand_words p s (valued g (marked o)) in
    let few = words_few p s (valued g (marked o)) in
    let less : c + 2 * w + 10 * length ps ≤ 60 = omega arith in
    let tight : c ≤ 60 = omega arith in
    let same = operand_words_same f g p s (marked o) in
    then_some (λ more. operands_said ps s i (((i + c) % 4294967296 + 2 * operand_words p s (valued f (marked o))) % 4294967296) (map (valued f)
    (map marked os)) (together a more))
    (λ more. operands_said ps s j (((j + c) % 4294967296 + 2 * w) % 4294967296) (map (valued g) (map marked os)) (together b more))
    (operand_said p s i ((i + c) % 4294967296) (valued f (marked o))) (operand_said p s j ((j + c) % 4294967296) (valued g (marked o)))
    (operand_near p s i j c f g o tight fills both.0)
    (λ x y k. rw (same, further_on i c w) (operands_near ps s i j (c + 2 * w) f g os (together a x) (together b y) less fills both.1
    (subst (λ (n : ℕ). is_some (operands_said ps s j n (map (valued g) (map marked os)) (together b y)) ≡ true) (further_on j c w) k)))
    h

-- ---- statements

-- a line has at most three operands, and two words before theirs
abbrev pub is_short : Line → Bool
is_short l = nat_le (length (patterns_of l.operands)) 3 && nat_le l.words 2

all_short : list_all is_short lines ≡ true
unfolding lines
all_short = refl

-- a form that is a line's, and takes the operands
record IsForm (t : Form) (os : List (Operand ℤ)) : Type 0 where
  pub short : is_short t.line ≡ true
  pub takes : takes_operands (patterns_of t.line.operands) t.size os ≡ true

line_form : (l : Line) (name : List ℕ) (letter : Option SizeLetter) (os : List (Operand ℤ)) (t : Form) → is_short l ≡ true
    → form_by l name letter os ≡ Some t → IsForm t os
line_form l name letter os t short h =
    let c = chained (λ x. option_map (form_at l x) (size_by l letter os)) (condition_by l name) t h in
    let s = mapped (form_at l c.0) (size_by l letter os) t c.1.1 in
    let z = chained (λ x. if takes_operands (patterns_of l.operands) x os then Some x else None) (size_in l.sizes letter) s.0 s.1.0 in
    let k = if_some (takes_operands (patterns_of l.operands) z.0 os) z.0 s.0 z.1.1 in
    subst (λ y. IsForm y os) s.1.1 (subst (λ y. IsForm (form_at l c.0 y) os) k.1 (record { short = short; takes = k.0 }))

form_is : (ls : List Line) (name : List ℕ) (letter : Option SizeLetter) (os : List (Operand ℤ)) (t : Form)
    → list_all is_short ls ≡ true → form_among ls name letter os ≡ Some t → IsForm t os
form_is [] name letter os t short h = absurd cc
form_is (l ∷ ls) name letter os t short h =
    let both = and_is (is_short l) (list_all is_short ls) short in
    elim (form_by l name letter os) as (λ o. (form_by l name letter os ≡ o) → option_or o (form_among ls name letter os) ≡ Some t → IsForm t os) [
      | None ↦ λ e k. form_is ls name letter os t both.1 k
      | Some u ↦ λ e k. line_form l name letter os t both.0 (e ∙ k)
    ] refl h

said_near : (t : Form) (i j : ℕ) (f g : Marked → ℤ) (os : List (Operand Sum)) → IsForm t (map (valued g) (map marked os)) → Fills i j f g
    → is_some (said t (map (valued g) (map marked os)) j) ≡ true → is_some (said t (map (valued f) (map marked os)) i) ≡ true
said_near t i j f g os form fills h =
    let both = and_is (nat_le (length (patterns_of t.line.operands)) 3) (nat_le t.line.words 2) form.short in
    let a = le_is (length (patterns_of t.line.operands)) 3 both.0 in
    let b = le_is t.line.words 2 both.1 in
    let c = 2 + 2 * t.line.words in
    let small : c + 10 * length (patterns_of t.line.operands) ≤ 60 = omega arith in
    map_some (words_said t) (words_said t)
    (operands_said (patterns_of t.line.operands) t.size i ((i + c) % 4294967296) (map (valued f) (map marked os)) (in_first 0))
    (operands_said (patterns_of t.line.operands) t.size j ((j + c) % 4294967296) (map (valued g) (map marked os)) (in_first 0))
    (operands_near (patterns_of t.line.operands) t.size i j c f g os (in_first 0) (in_first 0) small fills form.takes) h

out_is : (r : Result Instr MeansFault) → is_out r ≡ true → r ≡ Err fault.Range
out_is (Ok i) h = absurd cc
out_is (Err fault.Name) h = absurd cc
out_is (Err fault.Operand) h = absurd cc
out_is (Err fault.Range) h = refl

told_out : (x y : Option (List ℕ)) → (is_some y ≡ true → is_some x ≡ true) → is_out (told x) ≡ true → is_out (told y) ≡ true
told_out x None m h = refl
told_out None (Some y) m h = absurd (true≢false (sym (m refl)))
told_out (Some x) (Some y) m h = absurd (told_in x (out_is (told (Some x)) h))

formed_out : (o : Option Form) (e : MeansFault) (i j : ℕ) (f g : Marked → ℤ) (os : List (Operand Sum))
    → ((t : Form) → o ≡ Some t → IsForm t (map (valued g) (map marked os))) → Fills i j f g
    → is_out (meaning_by (ok_or o e) (map (valued f) (map marked os)) i) ≡ true
    → is_out (meaning_by (ok_or o e) (map (valued g) (map marked os)) j) ≡ true
formed_out None e i j f g os form fills h = h
formed_out (Some t) e i j f g os form fills h =
    told_out (said t (map (valued f) (map marked os)) i) (said t (map (valued g) (map marked os)) j)
    (said_near t i j f g os (form t refl) fills) h

-- A statement of which a number is out of its range by values that count has one out of its range by those beside them.
pub out_stays : (name : List ℕ) (letter : Option SizeLetter) (os : List (Operand Sum)) (i j : ℕ) (f g : Marked → ℤ) → Fills i j f g
    → is_out (meaning name letter (map (valued f) (map marked os)) i) ≡ true
    → is_out (meaning name letter (map (valued g) (map marked os)) j) ≡ true
out_stays name letter os i j f g fills h =
    let vs = map (valued g) (map marked os) in
    let e = if is_named lines name then fault.Operand else fault.Name in
    formed_out (form_among lines name letter vs) e i j f g os (λ t k. form_is lines name letter vs t all_short k) fills
    (subst (λ r. is_out (meaning_by r (map (valued f) (map marked os)) i) ≡ true) (form_of_same f g name letter (map marked os)) h)

-- ---- the numbers of a scope

-- the value of a marked number
abbrev pub fill : Scope → Marked → ℤ
fill scope m = if m.is_target then target scope m.terms else value_or_one scope m.terms

-- a value whatever the mark is
abbrev pub unmarked : (Sum → ℤ) → Marked → ℤ
unmarked value m = value m.terms

outer_filled : (value : Sum → ℤ) (f : Marked → ℤ) (is_target : Bool) (d : Option (Displacement Sum)) → ((e : Sum) → f (mark is_target e) ≡ value e)
    → option_map (valued_displacement value) d ≡ option_map (valued_displacement f) (option_map (marked_displacement is_target) d)
outer_filled value f is_target None h = refl
outer_filled value f is_target (Some d) h = rw (h d.value) refl

base_filled : (scope : Scope) (b : Base) (d : Option (Displacement Sum))
    → filled_base scope b d ≡ option_map (valued_displacement (fill scope)) (option_map (marked_displacement (is_pc b)) d)
base_filled scope base.Pc d = outer_filled (target scope) (fill scope) true d (λ e. refl)
base_filled scope (base.Address n) d = outer_filled (value_or_one scope) (fill scope) false d (λ e. refl)
base_filled scope (base.NoAddress n) d = outer_filled (value_or_one scope) (fill scope) false d (λ e. refl)
base_filled scope base.NoPc d = outer_filled (value_or_one scope) (fill scope) false d (λ e. refl)

mode_filled : (scope : Scope) (m : Mode Sum) → filled_mode scope m ≡ valued_mode (fill scope) (marked_mode m)
mode_filled scope (mode.Absolute e None) = refl
mode_filled scope (mode.Absolute e (Some w)) = refl
mode_filled scope (mode.Full t) =
    rw (base_filled scope t.base t.displacement, outer_filled (value_or_one scope) (fill scope) false t.outer (λ e. refl)) refl
mode_filled scope _ = refl

number_filled : (scope : Scope) (n : FieldNumber Sum) → valued_number (value_or_one scope) n ≡ valued_number (fill scope) (marked_number n)
number_filled scope (field_number.Data n) = refl
number_filled scope (field_number.Number e) = refl

operand_filled : (scope : Scope) (o : Operand Sum) → with_all_known scope o ≡ valued (fill scope) (marked o)
operand_filled scope (operand.Mode m) = rw (mode_filled scope m) refl
operand_filled scope (operand.Field m t) = rw (mode_filled scope m, number_filled scope t.offset, number_filled scope t.width) refl
operand_filled scope _ = refl

pub all_filled : (scope : Scope) (os : List (Operand Sum)) → map (with_all_known scope) os ≡ map (valued (fill scope)) (map marked os)
all_filled scope [] = refl
all_filled scope (o ∷ os) = rw (operand_filled scope o, all_filled scope os) refl

mode_unmarked : (value : Sum → ℤ) (m : Mode Sum) → valued_mode value m ≡ valued_mode (unmarked value) (marked_mode m)
mode_unmarked value (mode.Absolute e None) = refl
mode_unmarked value (mode.Absolute e (Some w)) = refl
mode_unmarked value (mode.Full t) =
    rw (outer_filled value (unmarked value) (is_pc t.base) t.displacement (λ e. refl), outer_filled value (unmarked value) false t.outer (λ e. refl)) refl
mode_unmarked value _ = refl

number_unmarked : (value : Sum → ℤ) (n : FieldNumber Sum) → valued_number value n ≡ valued_number (unmarked value) (marked_number n)
number_unmarked value (field_number.Data n) = refl
number_unmarked value (field_number.Number e) = refl

operand_unmarked : (value : Sum → ℤ) (o : Operand Sum) → valued value o ≡ valued (unmarked value) (marked o)
operand_unmarked value (operand.Mode m) = rw (mode_unmarked value m) refl
operand_unmarked value (operand.Field m t) = rw (mode_unmarked value m, number_unmarked value t.offset, number_unmarked value t.width) refl
operand_unmarked value _ = refl

pub all_unmarked : (value : Sum → ℤ) (os : List (Operand Sum)) → map (valued value) os ≡ map (valued (unmarked value)) (map marked os)
all_unmarked value [] = refl
all_unmarked value (o ∷ os) = rw (operand_unmarked value o, all_unmarked value os) refl
