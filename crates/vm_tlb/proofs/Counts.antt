-- A walk to a place of a path.
use Rattle.std.proofs.Common.{◌≡◌, ◌≢◌, ◌∙◌, ℕ, zero, suc, ◌-◌, ◌≤◌, ◌<◌, List, [], ◌∷◌, length, map, ap, sym, subst, refl, arith}
use Rattle.std.specs.Prelude.{Some, None, slice_get}
use Rattle.mb_model.specs.declared.kept.Kept.{Kept}
use Rattle.law_links.specs.Paths.{IsPath, walk, times}
use Rattle.law_links.proofs.Paths.{one, path-walk}

pub record Counting (f : ℕ → ℕ) (kept : ℕ → Kept) (all : List ℕ) (place at left : ℕ) : Type 0 where
  pub from : ℕ
  pub tail : List ℕ
  pub led : f from ≡ at
  pub path : IsPath f from tail 256
  pub low : (k : ℕ) → 0 < times k tail → k < 256
  pub few : length tail ≤ 256
  pub same : slice_get (map kept tail) left ≡ slice_get (map kept all) place

pub record Counted (f : ℕ → ℕ) (kept : ℕ → Kept) (all : List ℕ) (place at left : ℕ) : Type 0 where
  pub low : at < 256
  pub found : left ≡ 0 → Some (kept at) ≡ slice_get (map kept all) place
  pub goes : left ≢ 0 → Counting f kept all place (f at) (left - 1)
  pub fewer : length (walk 256 f 256 (f at)) < length (walk 256 f 256 at)

later : (k : Kept) (ks : List Kept) (left : ℕ) → left ≢ 0 → slice_get (k ∷ ks) left ≡ slice_get ks (left - 1)
later k ks zero d = absurd (d refl)
later k ks (suc n) d = let e : suc n - 1 ≡ n = omega arith in rw e refl

module _ (f : ℕ → ℕ) (kept : ℕ → Kept) (all : List ℕ) (place : ℕ) where
  count_on : (at left from : ℕ) (tail : List ℕ) → f from ≡ at → IsPath f from tail 256 → ((k : ℕ) → 0 < times k tail → k < 256) → length tail ≤ 256
      → slice_get (map kept tail) left ≡ slice_get (map kept all) place → at ≢ 256 → Counted f kept all place at left
  count_on at left from [] led path low few same d = absurd (d (sym led ∙ path))
  count_on at left from (x ∷ tail) led path low few same d =
      let e : x ≡ at = sym path.0 ∙ led in
      let now = path-walk 256 f from (x ∷ tail) 256 low few path in
      let then = path-walk 256 f x tail 256 (λ k h. low k (omega (arith, h))) (omega (arith, few)) path.1 in
      subst (λ (n : ℕ). Counted f kept all place n left) e (record {
        low = low x (omega (arith, one x x refl));
        found = λ z. ap (slice_get (map kept (x ∷ tail))) (sym z) ∙ same;
        goes = λ n. record {
          from = x;
          tail = tail;
          led = refl;
          path = path.1;
          low = λ k h. low k (omega (arith, h));
          few = omega (arith, few);
          same = sym (later (kept x) (map kept tail) left n) ∙ same;
        };
        fewer = rw (then, ap (walk 256 f 256) (sym path.0) ∙ now) (omega arith);
      })

  pub count_step : (at left : ℕ) → Counting f kept all place at left → at ≢ 256 → Counted f kept all place at left
  count_step at left a d = count_on at left a.from a.tail a.led a.path a.low a.few a.same d

  past_on : (at left from : ℕ) (tail : List ℕ) → f from ≡ at → IsPath f from tail 256 → ((k : ℕ) → 0 < times k tail → k < 256)
      → slice_get (map kept tail) left ≡ slice_get (map kept all) place → at ≡ 256 → None ≡ slice_get (map kept all) place
  past_on at zero from [] led path low same e = same
  past_on at (suc left) from [] led path low same e = same
  past_on at left from (x ∷ tail) led path low same e = absurd (omega (arith, low x (omega (arith, one x x refl)), path.0, led, e))

  pub count_past : (at left : ℕ) → Counting f kept all place at left → at ≡ 256 → None ≡ slice_get (map kept all) place
  count_past at left a e = past_on at left a.from a.tail a.led a.path a.low a.same e
