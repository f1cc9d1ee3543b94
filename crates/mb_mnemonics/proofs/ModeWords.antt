-- A mode has as many words as its length says, and each of 16 bits.
use Rattle.std.proofs.Common.{◌≡◌, ℕ, ◌+◌, ◌/◌, ◌%◌, ◌^◌, ◌<◌, ◌≤◌, Bool, true, false, cond, List, [], ◌∷◌, ◌++◌, length, Option, Some, None, refl}
use Rattle.std.proofs.Common.{subst, ◌∙◌, arith, length-append}
use Rattle.std.specs.Prelude.{ℤ, pos, negsuc, int_le, ◌&&◌, ◌==◌, if◌then◌else◌, option_map, option_and_then}
use Rattle.mb_alu.specs.Signs.{modulo}
use Rattle.mb_instr.specs.declared.size.Size.{Size}
use Rattle.mb_instr.specs.declared.size.Size.TheVariants as size
use Rattle.mb_instr.specs.Codes.{AreWords}
use Rattle.mb_instr.specs.Kinds.{flag}
use Rattle.mb_instr.specs.Operands.{immediate, long_words}
use Rattle.mb_instr.specs.Sizes.{low_of, sign_extended, values_of}
use Rattle.mb_instr.proofs.Words.{AreWords-append, AreWords-cons, AreWords-nil}
use Rattle.mb_syntax.specs.declared.mode.Width.{Width}
use Rattle.mb_syntax.specs.declared.mode.Width.TheVariants as width
use Rattle.mb_syntax.specs.declared.mode.Scale.{Scale}
use Rattle.mb_syntax.specs.declared.mode.Scale.TheVariants.{One, Two, Four, Eight}
use Rattle.mb_syntax.specs.declared.mode.Index.{Index}
use Rattle.mb_syntax.specs.declared.mode.Base.{Base}
use Rattle.mb_syntax.specs.declared.mode.Base.TheVariants as base
use Rattle.mb_syntax.specs.declared.mode.Displacement.{Displacement}
use Rattle.mb_syntax.specs.declared.mode.Indirection.{Indirection}
use Rattle.mb_syntax.specs.declared.mode.Indirection.TheVariants.{Direct, PreIndexed, PostIndexed}
use Rattle.mb_syntax.specs.declared.mode.FullForm.{FullForm}
use Rattle.mb_syntax.specs.declared.mode.Mode.{Mode}
use Rattle.mb_syntax.specs.declared.mode.Mode.TheVariants as mode
use Rattle.mb_mnemonics.specs.declared.range.Range.{Range}
use Rattle.mb_mnemonics.specs.declared.range.Range.TheVariants as range
use Rattle.mb_mnemonics.specs.Ranges.{displacement, distance, greatest, immediate_range, least, number, values}
use Rattle.mb_mnemonics.specs.Modes.{base_displacement, brief, displacement_bits, displacement_words, extension_words, from_pc, full, full_word}
use Rattle.mb_mnemonics.specs.Modes.{immediate_words, index_bits, indirection_bits, is_dropped_base, is_long, is_word, mode_words, outer_of, plain}
use Rattle.mb_mnemonics.specs.Modes.{scale_bits, width_size, words_of}

-- what an option gives comes from a value of it
pub mapped : {A B : Type 0} (f : A → B) (o : Option A) (y : B) → option_map f o ≡ Some y → (x : A) × ((o ≡ Some x) × (f x ≡ y))
mapped f None y e = absurd cc
mapped f (Some x) y e = (x, (refl, cc))

pub chained : {A B : Type 0} (f : A → Option B) (o : Option A) (y : B)
    → option_and_then f o ≡ Some y → (x : A) × ((o ≡ Some x) × (f x ≡ Some y))
chained f None y e = absurd cc
chained f (Some x) y e = (x, (refl, e))

pub if_some : {A : Type 0} (b : Bool) (x y : A) → (if b then Some x else None) ≡ Some y → (b ≡ true) × (x ≡ y)
if_some true x y e = (refl, cc)
if_some false x y e = absurd cc

-- ---- numbers

modulo_small : (r : Range) (e : ℤ) → modulo (values r) e < values r
modulo_small range.Byte (pos n) = omega arith
modulo_small range.Byte (negsuc n) = omega arith
modulo_small range.Word (pos n) = omega arith
modulo_small range.Word (negsuc n) = omega arith
modulo_small range.Long (pos n) = omega arith
modulo_small range.Long (negsuc n) = omega arith
modulo_small range.Displacement8 (pos n) = omega arith
modulo_small range.Displacement8 (negsuc n) = omega arith
modulo_small range.Displacement16 (pos n) = omega arith
modulo_small range.Displacement16 (negsuc n) = omega arith
modulo_small range.Count (pos n) = omega arith
modulo_small range.Count (negsuc n) = omega arith
modulo_small range.Vector (pos n) = omega arith
modulo_small range.Vector (negsuc n) = omega arith
modulo_small range.Offset (pos n) = omega arith
modulo_small range.Offset (negsuc n) = omega arith
modulo_small range.Width (pos n) = omega arith
modulo_small range.Width (negsuc n) = omega arith

pub number_small : (r : Range) (e : ℤ) (v : ℕ) → number r e ≡ Some v → v < values r
number_small r e v h =
    let k = if_some (int_le (least r) e && int_le e (greatest r)) (modulo (values r) e) v h in
    subst (λ y. y < values r) k.1 (modulo_small r e)

low_small : (s : Size) (x : ℕ) → low_of s x < values_of s
low_small size.Byte x = omega arith
low_small size.Word x = omega arith
low_small size.Long x = omega arith

pub displacement_small : (s : Size) (place : ℕ) (e : ℤ) (d : ℕ) → displacement s place e ≡ Some d → d < values_of s
displacement_small s place e d h =
    let far = distance place e in
    let k = if_some (sign_extended s far == far) (low_of s far) d h in
    subst (λ y. y < values_of s) k.1 (low_small s far)

-- ---- words

-- so many words
pub record Fits (n : ℕ) (ws : List ℕ) : Type 0 where
  pub count : length ws ≡ n
  pub words : AreWords ws

pub none_fits : Fits 0 []
none_fits = record { count = refl; words = AreWords-nil }

pub one_fits : (w : ℕ) → w < 2 ^ 16 → Fits 1 (w ∷ [])
one_fits w h = record { count = refl; words = AreWords-cons w [] h AreWords-nil }

-- the high word and the low one
high_low : (v : ℕ) → v < 2 ^ 32 → AreWords (long_words v)
high_low v h =
    AreWords-cons (v / 65536) (v % 65536 ∷ []) (omega arith) (AreWords-cons (v % 65536) [] (omega arith) AreWords-nil)

pub long_fits : (v : ℕ) → v < 2 ^ 32 → Fits 2 (long_words v)
long_fits v h = record { count = refl; words = high_low v h }

pub immediate_fits : (s : Size) (v : ℕ) → v < values (immediate_range s) → Fits (immediate_words s) (immediate s v)
immediate_fits size.Byte v h = one_fits v h
immediate_fits size.Word v h = one_fits v h
immediate_fits size.Long v h = long_fits v h

pub both_fit : (m n : ℕ) (a b : List ℕ) → Fits m a → Fits n b → Fits (m + n) (a ++ b)
both_fit m n a b f g = record {
  count = let x = f.count in let y = g.count in length-append a b ∙ omega arith;
  words = AreWords-append a b f.words g.words;
}

pub along : {A : Type 0} (n : ℕ) (f : A → List ℕ) (o : Option A) (ws : List ℕ) → ((x : A) → o ≡ Some x → Fits n (f x))
    → option_map f o ≡ Some ws → Fits n ws
along n f o ws h e = let m = mapped f o ws e in subst (λ x. Fits n x) m.1.1 (h m.0 m.1.0)

-- ---- full forms

plain_width : (w : Width) (e : ℤ) (ws : List ℕ)
    → option_map (words_of w) (number (elim w [ width.Word ↦ range.Displacement16 | width.Long ↦ range.Long ]) e) ≡ Some ws
    → Fits (elim w [ width.Word ↦ 1 | width.Long ↦ 2 ]) ws
plain_width width.Word e ws h = along 1 (words_of width.Word) _ ws (λ x k. one_fits x (number_small range.Displacement16 e x k)) h
plain_width width.Long e ws h = along 2 (words_of width.Long) _ ws (λ x k. long_fits x (number_small range.Long e x k)) h

pc_width : (w : Width) (place : ℕ) (e : ℤ) (ws : List ℕ) → option_map (words_of w) (displacement (width_size w) place e) ≡ Some ws
    → Fits (elim w [ width.Word ↦ 1 | width.Long ↦ 2 ]) ws
pc_width width.Word place e ws h = along 1 (words_of width.Word) _ ws (λ x k. one_fits x (displacement_small size.Word place e x k)) h
pc_width width.Long place e ws h = along 2 (words_of width.Long) _ ws (λ x k. long_fits x (displacement_small size.Long place e x k)) h

plain_fits : (d : Option (Displacement ℤ)) (ws : List ℕ) → plain d ≡ Some ws → Fits (displacement_words d) ws
plain_fits None ws e = let h : [] ≡ ws = cc in subst (λ x. Fits 0 x) h none_fits
plain_fits (Some d) ws e = plain_width d.width d.value ws e

pc_fits : (place : ℕ) (d : Option (Displacement ℤ)) (ws : List ℕ) → from_pc place d ≡ Some ws → Fits (displacement_words d) ws
pc_fits place None ws e = let h : [] ≡ ws = cc in subst (λ x. Fits 0 x) h none_fits
pc_fits place (Some d) ws e = pc_width d.width place d.value ws e

base_fits : (b : Base) (place : ℕ) (d : Option (Displacement ℤ)) (ws : List ℕ) → (elim b [
  | base.Address n ↦ plain d
  | base.NoAddress n ↦ plain d
  | base.Pc ↦ from_pc place d
  | base.NoPc ↦ plain d
]) ≡ Some ws → Fits (displacement_words d) ws
base_fits (base.Address n) place d ws e = plain_fits d ws e
base_fits (base.NoAddress n) place d ws e = plain_fits d ws e
base_fits base.Pc place d ws e = pc_fits place d ws e
base_fits base.NoPc place d ws e = plain_fits d ws e

few : (d : Option (Displacement ℤ)) → displacement_words d ≤ 2
few None = omega arith
few (Some d) = elim d.width as (λ w. (elim w [ width.Word ↦ 1 | width.Long ↦ 2 ]) ≤ 2) [ width.Word ↦ omega arith | width.Long ↦ omega arith ]

flag_is : (b : Bool) → flag b ≤ 1
flag_is true = omega arith
flag_is false = omega arith

scale_is : (s : Scale) → scale_bits s ≤ 3
scale_is One = omega arith
scale_is Two = omega arith
scale_is Four = omega arith
scale_is Eight = omega arith

index_small : (i : Index) → index_bits i ≤ 65024
index_small i =
    let a = flag_is i.is_address in
    let l = flag_is (is_long i.width) in
    let s = scale_is i.scale in
    omega arith

brief_small : (i : Index) (d : ℕ) → brief i d < 2 ^ 16
brief_small i d = let h = index_small i in omega arith

indirection_at : Indirection → Bool → ℕ → ℕ
indirection_at i b n = elim i [ Direct ↦ 0 | PreIndexed ↦ n | PostIndexed ↦ cond b n (4 + n) ]

indirection_small : (i : Indirection) (b : Bool) (n : ℕ) → n ≤ 3 → indirection_at i b n ≤ 7
unfolding indirection_at
indirection_small Direct b n h = omega arith
indirection_small PreIndexed b n h = omega arith
indirection_small PostIndexed true n h = omega arith
indirection_small PostIndexed false n h = omega arith

indirection_is : (f : FullForm ℤ) → indirection_bits f ≡ indirection_at f.indirection f.index.is_dropped (displacement_bits f.outer)
unfolding indirection_at
indirection_is f = refl

full_small : (f : FullForm ℤ) → full_word f < 2 ^ 16
full_small f =
    let i = index_small f.index in
    let d : displacement_words f.displacement ≤ 2 = few f.displacement in
    let o : displacement_words f.outer ≤ 2 = few f.outer in
    let b = flag_is (is_dropped_base f.base) in
    let x = flag_is f.index.is_dropped in
    let k = indirection_small f.indirection f.index.is_dropped (displacement_bits f.outer) (omega arith) in
    let e = indirection_is f in
    omega arith

full_fits : (place : ℕ) (f : FullForm ℤ) (ws : List ℕ) → full place f ≡ Some ws
    → Fits (1 + displacement_words f.displacement + displacement_words (outer_of f)) ws
full_fits place f ws h =
    let b = chained (λ bd. option_map (λ od. full_word f ∷ bd ++ od) (plain (outer_of f))) (base_displacement place f) ws h in
    let o = mapped (λ od. full_word f ∷ b.0 ++ od) (plain (outer_of f)) ws b.1.1 in
    let m = displacement_words f.displacement in
    let n = displacement_words (outer_of f) in
    let front = both_fit 1 m (full_word f ∷ []) b.0 (one_fits (full_word f) (full_small f)) (base_fits f.base place f.displacement b.0 b.1.0) in
    subst (λ x. Fits (1 + m + n) x) o.1.1 (both_fit (1 + m) n (full_word f ∷ b.0) o.0 front (plain_fits (outer_of f) o.0 o.1.0))

absolute : (b : Bool) (p q : Option (List ℕ)) (ws : List ℕ) → (p ≡ Some ws → Fits 1 ws) → (q ≡ Some ws → Fits 2 ws)
    → cond b p q ≡ Some ws → Fits (cond b 1 2) ws
absolute true p q ws hp hq e = hp e
absolute false p q ws hp hq e = hq e

no_words : (ws : List ℕ) → Some [] ≡ Some ws → Fits 0 ws
no_words ws e = let h : [] ≡ ws = cc in subst (λ x. Fits 0 x) h none_fits

pub mode_fits : (s : Size) (place : ℕ) (m : Mode ℤ) (ws : List ℕ) → extension_words s place m ≡ Some ws → Fits (mode_words s m) ws
unfolding mode_words
mode_fits s place (mode.Data n) ws e = no_words ws e
mode_fits s place (mode.Address n) ws e = no_words ws e
mode_fits s place (mode.Indirect n) ws e = no_words ws e
mode_fits s place (mode.PostIncrement n) ws e = no_words ws e
mode_fits s place (mode.PreDecrement n) ws e = no_words ws e
mode_fits s place (mode.Displaced n d) ws e = along 1 _ _ ws (λ x k. one_fits x (number_small range.Displacement16 d x k)) e
mode_fits s place (mode.Indexed n d i) ws e = along 1 _ _ ws (λ x k. one_fits (brief i x) (brief_small i x)) e
mode_fits s place (mode.Absolute a w) ws e =
    absolute (is_word w) _ _ ws (λ h. along 1 _ _ ws (λ x k. one_fits x (number_small range.Word a x k)) h)
    (λ h. along 2 _ _ ws (λ x k. long_fits x (number_small range.Long a x k)) h) e
mode_fits s place (mode.PcDisplaced d) ws e = along 1 _ _ ws (λ x k. one_fits x (displacement_small size.Word place d x k)) e
mode_fits s place (mode.PcIndexed d i) ws e = along 1 _ _ ws (λ x k. one_fits (brief i x) (brief_small i x)) e
mode_fits s place (mode.Full f) ws e = full_fits place f ws e
mode_fits s place (mode.Immediate v) ws e =
    along (immediate_words s) _ _ ws (λ x k. immediate_fits s x (number_small (immediate_range s) v x k)) e
