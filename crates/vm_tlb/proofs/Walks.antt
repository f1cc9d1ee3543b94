-- What the walks along links find.
use Rattle.std.proofs.Common.{◌≡◌, ◌≢◌, ◌∙◌, ℕ, ◌+◌, ◌≤◌, ◌<◌, ◌==◌, Bool, true, false, List, [], ◌∷◌, length}
use Rattle.std.proofs.Common.{ap, sym, subst, refl, arith, inl, inr, length-append}
use Rattle.std.proofs.lemmas.Bool.{cases_eq}
use Rattle.std.proofs.lemmas.Bool.Decides.{nat_tests}
use Rattle.vm_tlb.specs.Chains.{chain, first_of, before, Linked}
use Rattle.law_links.specs.Paths.{IsPath, walk, times}
use Rattle.vm_tlb.proofs.Paths.{times-here, times-chain}
use Rattle.law_links.proofs.Paths.{one, none, path-walk}
use Rattle.vm_tlb.proofs.Changes.{inside}

length-chain : (of : ℕ → ℕ) (number : ℕ) (xs : List ℕ) → length (chain of number xs) ≤ length xs
length-chain of number [] = omega arith
length-chain of number (x ∷ xs) = elim (cases_eq (of x) number) [
  | inl e ↦ let b : (of x == number) ≡ true =
      grind (arith, nat_tests) in rw b (omega (arith, length-chain of number xs, length-append (chain of number xs) (x ∷ [])))
  | inr d ↦ let b : (of x == number) ≡ false =
      grind (arith, nat_tests) in rw b (omega (arith, length-chain of number xs, length-append (chain of number xs) []))
]

module _ (newer older next of : ℕ → ℕ) (live free : List ℕ) (linked : Linked newer older next of live free) where
  -- the walks from the roots find them
  pub sealed : (walk 256 newer 256 (newer 256) ≡ live) × (walk 256 next 256 (next 320) ≡ free)
  sealed = (
    path-walk 256 newer 256 live 256 (λ k h. inside newer older next of live free linked k (omega (arith, h))) (omega (arith, linked.all)) linked.ring,
    path-walk 256 next 320 free 256 (λ k h. inside newer older next of live free linked k (omega (arith, h))) (omega (arith, linked.all)) linked.rest,
  )

  pub resealed : Linked newer older next of (walk 256 newer 256 (newer 256)) (walk 256 next 256 (next 320))
  resealed = rw (sealed.0, sealed.1) linked

-- A walk stands somewhere on a path, and no node before passes.
pub record Along (f : ℕ → ℕ) (p : ℕ → Bool) (all : List ℕ) (at : ℕ) : Type 0 where
  pub from : ℕ
  pub tail : List ℕ
  pub led : f from ≡ at
  pub path : IsPath f from tail 256
  pub low : (k : ℕ) → 0 < times k tail → k < 256
  pub few : length tail ≤ 256
  pub same : first_of p tail ≡ first_of p all

pub record Step (f : ℕ → ℕ) (p : ℕ → Bool) (all : List ℕ) (at : ℕ) : Type 0 where
  pub low : at < 256
  pub found : p at ≡ true → at ≡ first_of p all
  pub goes : p at ≡ false → Along f p all (f at)
  pub fewer : length (walk 256 f 256 (f at)) < length (walk 256 f 256 at)

module _ (f : ℕ → ℕ) (p : ℕ → Bool) (all : List ℕ) where
  step_on : (at from : ℕ) (tail : List ℕ) → f from ≡ at → IsPath f from tail 256 → ((k : ℕ) → 0 < times k tail → k < 256) → length tail ≤ 256
      → first_of p tail ≡ first_of p all → at ≢ 256 → Step f p all at
  step_on at from [] led path low few same d = absurd (d (sym led ∙ path))
  step_on at from (x ∷ tail) led path low few same d =
      let e : x ≡ at = sym path.0 ∙ led in
      let now = path-walk 256 f from (x ∷ tail) 256 low few path in
      let then = path-walk 256 f x tail 256 (λ k h. low k (omega (arith, h))) (omega (arith, few)) path.1 in
      subst (λ (n : ℕ). Step f p all n) e (record {
        low = low x (omega (arith, one x x refl));
        found = λ t. sym (rw t refl) ∙ same;
        goes = λ t. record {
          from = x;
          tail = tail;
          led = refl;
          path = path.1;
          low = λ k h. low k (omega (arith, h));
          few = omega (arith, few);
          same = sym (rw t refl) ∙ same;
        };
        fewer = rw (then, ap (walk 256 f 256) (sym path.0) ∙ now) (omega arith);
      })

  pub along-step : (at : ℕ) → Along f p all at → at ≢ 256 → Step f p all at
  along-step at a d = step_on at a.from a.tail a.led a.path a.low a.few a.same d

  end_on : (at from : ℕ) (tail : List ℕ) → f from ≡ at → IsPath f from tail 256 → ((k : ℕ) → 0 < times k tail → k < 256)
      → first_of p tail ≡ first_of p all → at ≡ 256 → at ≡ first_of p all
  end_on at from [] led path low same e = e ∙ same
  end_on at from (x ∷ tail) led path low same e = absurd (omega (arith, low x (omega (arith, one x x refl)), path.0, led, e))

  pub along-end : (at : ℕ) → Along f p all at → at ≡ 256 → at ≡ first_of p all
  along-end at a e = end_on at a.from a.tail a.led a.path a.low a.same e

module _ (newer older next of : ℕ → ℕ) (live free : List ℕ) (linked : Linked newer older next of live free) where
  pub along-chain : (number : ℕ) (p : ℕ → Bool) → number < 64 → Along next p (chain of number live) (next (256 + number))
  along-chain number p h = record {
    from = 256 + number;
    tail = chain of number live;
    led = refl;
    path = linked.chains number h;
    low = λ k h. inside newer older next of live free linked k (omega (arith, h, times-chain of number k live));
    few = omega (arith, length-chain of number live, linked.all);
    same = refl;
  }

-- A walk stands before a place on a path, and on its way to a node.
pub record Toward (f : ℕ → ℕ) (x root : ℕ) (all : List ℕ) (from at : ℕ) : Type 0 where
  pub tail : List ℕ
  pub led : f from ≡ at
  pub path : IsPath f from tail 256
  pub ahead : 0 < times x tail
  pub low : (k : ℕ) → 0 < times k tail → k < 256
  pub few : length tail ≤ 256
  pub same : before x from tail ≡ before x root all
  pub within : from < 321

pub record Nearer (f : ℕ → ℕ) (x root : ℕ) (all : List ℕ) (at : ℕ) : Type 0 where
  pub low : at < 256
  pub goes : Toward f x root all at (f at)
  pub fewer : length (walk 256 f 256 (f at)) < length (walk 256 f 256 at)

module _ (f : ℕ → ℕ) (x root : ℕ) (all : List ℕ) where
  nearer_on : (from at : ℕ) (tail : List ℕ) → f from ≡ at → IsPath f from tail 256 → 0 < times x tail → ((k : ℕ) → 0 < times k tail → k < 256)
      → length tail ≤ 256
      → before x from tail ≡ before x root all → at ≢ x → Nearer f x root all at
  nearer_on from at [] led path ahead low few same d = absurd (omega (arith, ahead))
  nearer_on from at (y ∷ tail) led path ahead low few same d =
      let e : y ≡ at = sym path.0 ∙ led in
      let o : y ≢ x = λ i. d (sym e ∙ i) in
      let b : (y == x) ≡ false = grind (arith, nat_tests) in
      let now = path-walk 256 f from (y ∷ tail) 256 low few path in
      let then = path-walk 256 f y tail 256 (λ k h. low k (omega (arith, h))) (omega (arith, few)) path.1 in
      let here : y < 256 = low y (omega (arith, one y y refl)) in
      subst (λ (n : ℕ). Nearer f x root all n) e (record {
        low = here;
        goes = record {
          tail = tail;
          led = refl;
          path = path.1;
          ahead = omega (arith, ahead, none y x o);
          low = λ k h. low k (omega (arith, h));
          few = omega (arith, few);
          same = sym (rw b refl) ∙ same;
          within = omega (arith, here);
        };
        fewer = rw (then, ap (walk 256 f 256) (sym path.0) ∙ now) (omega arith);
      })

  pub nearer : (from at : ℕ) → Toward f x root all from at → at ≢ x → Nearer f x root all at
  nearer from at t d = nearer_on from at t.tail t.led t.path t.ahead t.low t.few t.same d

  arrived_on : (from at : ℕ) (tail : List ℕ) → f from ≡ at → IsPath f from tail 256 → 0 < times x tail → before x from tail ≡ before x root all → at ≡ x
      → from ≡ before x root all
  arrived_on from at [] led path ahead same e = absurd (omega (arith, ahead))
  arrived_on from at (y ∷ tail) led path ahead same e =
      let i : y ≡ x = sym path.0 ∙ led ∙ e in
      let b : (y == x) ≡ true = grind (arith, nat_tests) in
      sym (rw b refl) ∙ same

  pub arrived : (from at : ℕ) → Toward f x root all from at → at ≡ x → from ≡ before x root all
  arrived from at t e = arrived_on from at t.tail t.led t.path t.ahead t.same e

module _ (newer older next of : ℕ → ℕ) (live free : List ℕ) (linked : Linked newer older next of live free) where
  pub toward-chain : (x : ℕ) → 0 < times x live → of x < 64 → Toward next x (256 + of x) (chain of (of x) live) (256 + of x) (next (256 + of x))
  toward-chain x h low = record {
    tail = chain of (of x) live;
    led = refl;
    path = linked.chains (of x) low;
    ahead = omega (arith, h, times-here of (of x) x live refl);
    low = λ k i. inside newer older next of live free linked k (omega (arith, i, times-chain of (of x) k live));
    few = omega (arith, length-chain of (of x) live, linked.all);
    same = refl;
    within = omega (arith, low);
  }
