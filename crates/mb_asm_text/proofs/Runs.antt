-- The longest run of a class of bytes, and the texts and characters that are quoted.
use Rattle.std.proofs.Common.{◌≡◌, ℕ, zero, suc, ◌+◌, ◌≤◌, ◌<◌, Bool, true, false, cond, List, [], ◌∷◌, length, take, refl, ap, arith}
use Rattle.std.specs.Prelude.{IsTrue, ◌==◌, ◌&&◌, not, slice_index}
use Rattle.std.specs.List.{list_all, prefix_len}
use Rattle.std.proofs.lemmas.List.Sums.{prefix_len-le-length}
use Rattle.std.proofs.lemmas.Bool.Decides.{nat_tests}
use Rattle.mb_asm_text.specs.Kinds.{is_apostrophe, is_closed, is_empty, is_printable, is_one, is_quotable, is_quoted_character, is_run}

pub both : (a b : Bool) → IsTrue (a && b) → IsTrue a × IsTrue b
both true b h = (refl, h)
both false b h = absurd cc

pub run_within : (p : ℕ → Bool) (bytes : List ℕ) → prefix_len p bytes ≤ length bytes
run_within p bytes = prefix_len-le-length p bytes

cons_passes : (p : ℕ → Bool) (byte : ℕ) (bytes : List ℕ) (n : ℕ) (b : Bool) → p byte ≡ b → IsTrue (list_all p (take n bytes))
    → IsTrue (list_all p (take (cond b (1 + n) 0) (byte ∷ bytes)))
cons_passes p byte bytes n true e h = let more : 1 + n ≡ suc n = omega arith in rw more (rw e h)
cons_passes p byte bytes n false e h = refl

-- the bytes of the run are all of the class
pub run_passes : (p : ℕ → Bool) (bytes : List ℕ) → IsTrue (list_all p (take (prefix_len p bytes) bytes))
run_passes p [] = refl
run_passes p (byte ∷ bytes) = cons_passes p byte bytes (prefix_len p bytes) (p byte) refl (run_passes p bytes)

-- no longer run is
pub run_longest : (p : ℕ → Bool) (bytes : List ℕ) (len : ℕ) → len ≤ length bytes → IsTrue (list_all p (take len bytes)) → len ≤ prefix_len p bytes
run_longest p bytes zero h passes = omega arith
run_longest p [] (suc len) h passes = omega arith
run_longest p (byte ∷ bytes) (suc len) h passes =
    let parts = both (p byte) (list_all p (take len bytes)) passes in
    let rest : len ≤ prefix_len p bytes = run_longest p bytes len (omega arith) parts.1 in
    rw parts.0 (omega arith)

pub empty_len : (bytes : List ℕ) (len : ℕ) → len ≤ length bytes → IsTrue (is_empty (take len bytes)) → len ≡ 0
empty_len bytes zero h e = refl
empty_len [] (suc len) h e = absurd (omega arith)
empty_len (byte ∷ bytes) (suc len) h e = absurd cc

unquotable : (printable quote : Bool) → quote ≡ true → (printable && not quote) ≡ false
unquotable true true e = refl
unquotable false true e = refl
unquotable printable false e = absurd cc

quotable_if : (printable quote : Bool) → printable ≡ true → quote ≡ false → (printable && not quote) ≡ true
quotable_if true false p e = refl
quotable_if true true p e = absurd cc
quotable_if false quote p e = absurd cc

no_quote : (printable quote : Bool) → quote ≡ true → (printable && not quote) ≡ true → ⊥
no_quote true true e q = absurd cc
no_quote false true e q = absurd cc
no_quote printable false e q = absurd cc

pub record Closes (bytes : List ℕ) (len : ℕ) : Type 0 where
  pub more : len ≡ 1 + prefix_len is_quotable bytes
  pub end : slice_index bytes (prefix_len is_quotable bytes) ≡ 34

closes_cons : (byte : ℕ) (bytes : List ℕ) (len : ℕ) (b : Bool) → (byte == 34) ≡ b → suc len ≤ length (byte ∷ bytes)
    → (IsTrue (is_closed (take len bytes)) → Closes bytes len)
    → IsTrue (cond b (is_empty (take len bytes)) (is_printable byte && is_closed (take len bytes)))
    → Closes (byte ∷ bytes) (suc len)
closes_cons byte bytes len true e h again closed =
    let quotable : is_quotable byte ≡ false = unquotable (is_printable byte) (byte == 34) e in
    let none : len ≡ 0 = empty_len bytes len (omega arith) closed in
    let same : byte ≡ 34 = grind (arith, nat_tests) in
    record { more = rw quotable (omega arith); end = rw quotable same }
closes_cons byte bytes len false e h again closed =
    let parts = both (is_printable byte) (is_closed (take len bytes)) closed in
    let quotable : is_quotable byte ≡ true = quotable_if (is_printable byte) (byte == 34) parts.0 e in
    let rest : Closes bytes len = again parts.1 in
    let next : 1 + prefix_len is_quotable bytes ≡ suc (prefix_len is_quotable bytes) = omega arith in
    record { more = rw quotable (omega arith); end = rw quotable (rw next rest.end) }

-- a quotation mark ends the text behind the longest run of what may stand in it
pub closed_longest : (bytes : List ℕ) (len : ℕ) → len ≤ length bytes → IsTrue (is_closed (take len bytes)) → Closes bytes len
closed_longest bytes zero h closed = absurd cc
closed_longest [] (suc len) h closed = absurd (omega arith)
closed_longest (byte ∷ bytes) (suc len) h closed = closes_cons byte bytes len (byte == 34) refl h (λ c. closed_longest bytes len (omega arith) c) closed

closed_cons : (byte : ℕ) (bytes : List ℕ) (quote quotable : Bool) → (byte == 34) ≡ quote → is_quotable byte ≡ quotable
    → cond quotable (1 + prefix_len is_quotable bytes) 0 < length (byte ∷ bytes)
    → slice_index (byte ∷ bytes) (cond quotable (1 + prefix_len is_quotable bytes) 0) ≡ 34
    → (prefix_len is_quotable bytes < length bytes → slice_index bytes (prefix_len is_quotable bytes) ≡ 34
    → IsTrue (is_closed (take (1 + prefix_len is_quotable bytes) bytes)))
    → IsTrue (is_closed (take (1 + cond quotable (1 + prefix_len is_quotable bytes) 0) (byte ∷ bytes)))
closed_cons byte bytes true false e q h f again = rw e refl
closed_cons byte bytes false false e q h f again = let same : byte ≡ 34 = f in absurd (grind (arith, nat_tests))
closed_cons byte bytes true true e q h f again = absurd (no_quote (is_printable byte) (byte == 34) e q)
closed_cons byte bytes false true e q h f again =
    let printable : is_printable byte ≡ true = (both (is_printable byte) (not (byte == 34)) q).0 in
    let next : 1 + prefix_len is_quotable bytes ≡ suc (prefix_len is_quotable bytes) = omega arith in
    let place : slice_index (byte ∷ bytes) (suc (prefix_len is_quotable bytes)) ≡ 34 = rw next at f in
    let more : 1 + (1 + prefix_len is_quotable bytes) ≡ suc (1 + prefix_len is_quotable bytes) = omega arith in
    rw more (rw e (rw printable (again (omega arith) place)))

-- such a text is closed
pub closed_found : (bytes : List ℕ) → prefix_len is_quotable bytes < length bytes → slice_index bytes (prefix_len is_quotable bytes) ≡ 34
    → IsTrue (is_closed (take (1 + prefix_len is_quotable bytes) bytes))
closed_found [] h e = absurd (omega arith)
closed_found (byte ∷ bytes) h e =
    closed_cons byte bytes (byte == 34) (is_quotable byte) refl refl h e (λ k f. closed_found bytes k f)

one_len : (bytes : List ℕ) (len : ℕ) → len ≤ length bytes → IsTrue (is_one is_apostrophe (take len bytes)) → len ≡ 1
one_len bytes zero h c = absurd cc
one_len [] (suc len) h c = absurd (omega arith)
one_len (byte ∷ bytes) (suc len) h c = ap suc (empty_len bytes len (omega arith) (both (is_apostrophe byte) (is_empty (take len bytes)) c).1)

pub character_longest : (bytes : List ℕ) (len : ℕ) → len ≤ length bytes → IsTrue (is_quoted_character (take len bytes)) → len ≡ 2
character_longest bytes zero h c = absurd cc
character_longest [] (suc len) h c = absurd (omega arith)
character_longest (byte ∷ bytes) (suc len) h c = ap suc (one_len bytes len (omega arith)
    (both (is_printable byte) (is_one is_apostrophe (take len bytes)) c).1)

-- a run that is a front of the bytes has one byte or more, and is no longer than theirs
pub run_most : (p : ℕ → Bool) (bytes : List ℕ) (len : ℕ) → len ≤ length bytes → IsTrue (is_run p (take len bytes)) → (1 ≤ len) × (len ≤ prefix_len p bytes)
run_most p bytes zero h run = absurd cc
run_most p [] (suc len) h run = absurd (omega arith)
run_most p (byte ∷ bytes) (suc len) h run = (omega arith, run_longest p (byte ∷ bytes) (suc len) h run)

pub run_is_run : (p : ℕ → Bool) (bytes : List ℕ) (len : ℕ) → 1 ≤ len → len ≤ length bytes → IsTrue (list_all p (take len bytes))
    → IsTrue (is_run p (take len bytes))
run_is_run p bytes zero some h run = absurd (omega arith)
run_is_run p [] (suc len) some h run = absurd (omega arith)
run_is_run p (byte ∷ bytes) (suc len) some h run = run
