-- A shadow's entries as a list, and what each call makes of it.
use Rattle.std.proofs.Common.{◌≡◌, ◌≢◌, ◌∙◌, ℕ, zero, suc, ◌^◌, ◌≤◌, ◌<◌, ◌==◌, Bool, true, false, cond, if◌then◌else◌, List, [], ◌∷◌, refl, ap, sym, subst}
use Rattle.std.proofs.Common.{arith, inl, inr}
use Rattle.std.specs.Prelude.{Option, Some, None}
use Rattle.std.proofs.lemmas.Bool.{cases_Bool, cases_eq, cases_lt}
use Rattle.std.proofs.lemmas.Bool.Decides.{nat_tests}
use Rattle.mb_port.specs.declared.types.Space.{Space}
use Rattle.mb_port.specs.declared.types.Space.TheVariants.{User, Super}
use Rattle.vm_shadow.specs.Slots.{placed, is_full_for}
use Rattle.vm_shadow.specs.Shadows.{EntryMap, Shadowed, is_at, with_entry, nothing, room_for}
use Rattle.vm_shadow.specs.Mapped.{shadowed}
use Rattle.vm_shadow.specs.Listed.{ShadowEntry, listed, AtMostOne, Lists, fronted, list_below, unlisted, relisted}
use Rattle.vm_shadow.specs.Listed.{EntriesAreListed, NothingIsListed, FillsAreListed, DropsAreListed}
use Rattle.vm_shadow.proofs.Held.{at_is, at_self, is_yes, is_no, entries_past}

eq_back : (p q : ℕ) → (p == q) ≡ (q == p)
eq_back p q = grind (arith, nat_tests)

at_back : (a : Space) (p : ℕ) (b : Space) (q : ℕ) → is_at a p b q ≡ is_at b q a p
at_back User p User q = eq_back p q
at_back User p Super q = refl
at_back Super p User q = refl
at_back Super p Super q = eq_back p q

-- the test of a list's first entry
first_yes : (e : ShadowEntry) (list : List ShadowEntry) (space : Space) (page : ℕ) → is_at e.space e.page space page ≡ true
    → listed (e ∷ list) space page ≡ Some (e.frame, e.writable)
first_yes e list space page h = ap (λ (b : Bool). cond b (Some (e.frame, e.writable)) (listed list space page)) h

first_no : (e : ShadowEntry) (list : List ShadowEntry) (space : Space) (page : ℕ) → is_at e.space e.page space page ≡ false
    → listed (e ∷ list) space page ≡ listed list space page
first_no e list space page h = ap (λ (b : Bool). cond b (Some (e.frame, e.writable)) (listed list space page)) h

goes : (space : Space) (page : ℕ) (e : ShadowEntry) (list : List ShadowEntry) → is_at space page e.space e.page ≡ true
    → unlisted space page (e ∷ list) ≡ unlisted space page list
goes space page e list h = ap (λ (b : Bool). cond b (unlisted space page list) (e ∷ unlisted space page list)) h

stays : (space : Space) (page : ℕ) (e : ShadowEntry) (list : List ShadowEntry) → is_at space page e.space e.page ≡ false
    → unlisted space page (e ∷ list) ≡ e ∷ unlisted space page list
stays space page e list h = ap (λ (b : Bool). cond b (unlisted space page list) (e ∷ unlisted space page list)) h

unlisted_here : (space : Space) (page : ℕ) (list : List ShadowEntry) → listed (unlisted space page list) space page ≡ None
unlisted_here space page [] = refl
unlisted_here space page (e ∷ list) = elim (cases_Bool (is_at space page e.space e.page)) [
  | inl h ↦ ap (λ (l : List ShadowEntry). listed l space page) (goes space page e list h) ∙ unlisted_here space page list
  | inr h ↦
      ap (λ (l : List ShadowEntry). listed l space page) (stays space page e list h)
      ∙ first_no e (unlisted space page list) space page (at_back e.space e.page space page ∙ h) ∙ unlisted_here space page list
]

unlisted_other : (space : Space) (page : ℕ) (of : Space) (number : ℕ) → is_at space page of number ≡ false → (list : List ShadowEntry)
    → listed (unlisted space page list) of number ≡ listed list of number
unlisted_other space page of number n [] = refl
unlisted_other space page of number n (e ∷ list) = elim (cases_Bool (is_at space page e.space e.page)) [
  | inl h ↦
      let parts = at_is space page e.space e.page h in
      let apart : is_at e.space e.page of number ≡ false =
      ap (λ (r : Space). is_at r e.page of number) parts.0 ∙ ap (λ (p : ℕ). is_at space p of number) parts.1 ∙ n in
      ap (λ (l : List ShadowEntry). listed l of number) (goes space page e list h)
      ∙ unlisted_other space page of number n list ∙ sym (first_no e list of number apart)
  | inr h ↦
      ap (λ (l : List ShadowEntry). listed l of number) (stays space page e list h)
      ∙ ap (λ (o : Option (ℕ × Bool)). cond (is_at e.space e.page of number) (Some (e.frame, e.writable)) o) (unlisted_other space page of number n list)
]

unlisted_apart : (space : Space) (page : ℕ) (list : List ShadowEntry) → AtMostOne list → AtMostOne (unlisted space page list)
unlisted_apart space page [] a = a
unlisted_apart space page (e ∷ list) a = elim (cases_Bool (is_at space page e.space e.page)) [
  | inl h ↦ subst (λ (l : List ShadowEntry). AtMostOne l) (sym (goes space page e list h)) (unlisted_apart space page list a.1)
  | inr h ↦ subst (λ (l : List ShadowEntry). AtMostOne l) (sym (stays space page e list h))
      (unlisted_other space page e.space e.page h list ∙ a.0, unlisted_apart space page list a.1)
]

dropped_listed : (list : List ShadowEntry) (entries : EntryMap) (space : Space) (page : ℕ) → Lists list entries
    → Lists (unlisted space page list) (with_entry space page None entries)
dropped_listed list entries space page l = record {
  apart = unlisted_apart space page list l.apart;
  same = λ of number. elim (cases_Bool (is_at space page of number)) [
    | inl h ↦
        let parts = at_is space page of number h in
        ap (λ (r : Space). listed (unlisted space page list) r number) parts.0 ∙ ap (listed (unlisted space page list) space) parts.1
        ∙ unlisted_here space page list ∙ sym (is_yes space page of number None entries h)
    | inr h ↦ unlisted_other space page of number h list ∙ l.same of number ∙ sym (is_no space page of number None entries h)
  ];
}

put_listed : (list : List ShadowEntry) (entries : EntryMap) (e : ShadowEntry) → Lists list entries
    → Lists (relisted e list) (with_entry e.space e.page (Some (e.frame, e.writable)) entries)
put_listed list entries e l =
    let rest = unlisted e.space e.page list in
    record {
      apart = (unlisted_here e.space e.page list, unlisted_apart e.space e.page list l.apart);
      same = λ of number. elim (cases_Bool (is_at e.space e.page of number)) [
        | inl h ↦ first_yes e rest of number h ∙ sym (is_yes e.space e.page of number (Some (e.frame, e.writable)) entries h)
        | inr h ↦
            first_no e rest of number h ∙ unlisted_other e.space e.page of number h list ∙ l.same of number
            ∙ sym (is_no e.space e.page of number (Some (e.frame, e.writable)) entries h)
      ];
    }

pub nothing_is_listed : NothingIsListed
nothing_is_listed = record { apart = tt; same = λ space page. refl }

room_listed : (shadow : Shadowed) (list : List ShadowEntry) (full : Bool) → Lists list shadow.entries
    → Lists (if full then [] else list) (if full then nothing else shadow).entries
room_listed shadow list true l = nothing_is_listed
room_listed shadow list false l = l

pub fills_are_listed : FillsAreListed
fills_are_listed shadow list e l =
    put_listed (if is_full_for e.space e.page shadow.tables then [] else list) (room_for e.space e.page shadow).entries e
    (room_listed shadow list (is_full_for e.space e.page shadow.tables) l)

pub drops_are_listed : DropsAreListed
drops_are_listed shadow list space page l = dropped_listed list shadow.entries space page l

-- ---- all entries
at_not : (space : Space) (page : ℕ) (of : Space) (number : ℕ) → page ≢ number → is_at space page of number ≡ false
at_not User page User number n = grind (arith, nat_tests)
at_not User page Super number n = refl
at_not Super page User number n = refl
at_not Super page Super number n = grind (arith, nat_tests)

fronted_here : (space : Space) (page : ℕ) (o : Option (ℕ × Bool)) (list : List ShadowEntry) → listed list space page ≡ None
    → listed (fronted space page o list) space page ≡ o
fronted_here space page None list h = h
fronted_here space page (Some (frame, writable)) list h =
    first_yes (record { space = space; page = page; frame = frame; writable = writable }) list space page (at_self space page)

fronted_other : (space : Space) (page : ℕ) (o : Option (ℕ × Bool)) (list : List ShadowEntry) (of : Space) (number : ℕ)
    → is_at space page of number ≡ false → listed (fronted space page o list) of number ≡ listed list of number
fronted_other space page None list of number h = refl
fronted_other space page (Some (frame, writable)) list of number h =
    first_no (record { space = space; page = page; frame = frame; writable = writable }) list of number h

fronted_apart : (space : Space) (page : ℕ) (o : Option (ℕ × Bool)) (list : List ShadowEntry) → listed list space page ≡ None → AtMostOne list
    → AtMostOne (fronted space page o list)
fronted_apart space page None list h a = a
fronted_apart space page (Some (frame, writable)) list h a = (h, a)

module _ (entries : EntryMap) where
  below_more : (n : ℕ) → list_below (suc n) entries ≡ fronted User n (entries User n) (fronted Super n (entries Super n) (list_below n entries))
  unfolding list_below
  below_more n = refl

  below_none : list_below zero entries ≡ []
  unfolding list_below
  below_none = refl

  past : (n : ℕ) (of : Space) (number : ℕ) → n ≤ number → listed (list_below n entries) of number ≡ None
  past zero of number h = ap (λ (l : List ShadowEntry). listed l of number) below_none
  past (suc n) of number h =
      ap (λ (l : List ShadowEntry). listed l of number) (below_more n)
      ∙ fronted_other User n (entries User n) (fronted Super n (entries Super n) (list_below n entries)) of number (at_not User n of number (omega arith))
      ∙ fronted_other Super n (entries Super n) (list_below n entries) of number (at_not Super n of number (omega arith))
      ∙ past n of number (omega arith)

  newest : (n : ℕ) (of : Space) → listed (fronted User n (entries User n) (fronted Super n (entries Super n) (list_below n entries))) of n ≡ entries of n
  newest n User =
      fronted_here User n (entries User n) (fronted Super n (entries Super n) (list_below n entries))
      (fronted_other Super n (entries Super n) (list_below n entries) User n refl ∙ past n User n (omega arith))
  newest n Super =
      fronted_other User n (entries User n) (fronted Super n (entries Super n) (list_below n entries)) Super n refl
      ∙ fronted_here Super n (entries Super n) (list_below n entries) (past n Super n (omega arith))

  there : (n : ℕ) (of : Space) (number : ℕ) → number < n → listed (list_below n entries) of number ≡ entries of number
  there zero of number h = absurd (omega arith)
  there (suc n) of number h = ap (λ (l : List ShadowEntry). listed l of number) (below_more n) ∙ elim (cases_eq number n) [
    | inl e ↦
        ap (listed (fronted User n (entries User n) (fronted Super n (entries Super n) (list_below n entries))) of) e ∙ newest n of ∙ sym (ap (entries of) e)
    | inr differ ↦
        fronted_other User n (entries User n) (fronted Super n (entries Super n) (list_below n entries)) of number (at_not User n of number (omega arith))
        ∙ fronted_other Super n (entries Super n) (list_below n entries) of number (at_not Super n of number (omega arith))
        ∙ there n of number (omega arith)
  ]

  all_apart : (n : ℕ) → AtMostOne (list_below n entries)
  all_apart zero = subst (λ (l : List ShadowEntry). AtMostOne l) (sym below_none) tt
  all_apart (suc n) = subst (λ (l : List ShadowEntry). AtMostOne l) (sym (below_more n)) (
      fronted_apart User n (entries User n) (fronted Super n (entries Super n) (list_below n entries))
      (fronted_other Super n (entries Super n) (list_below n entries) User n refl ∙ past n User n (omega arith))
      (fronted_apart Super n (entries Super n) (list_below n entries) (past n Super n (omega arith)) (all_apart n)))

  whole : (n : ℕ) → ((space : Space) (page : ℕ) → n ≤ page → entries space page ≡ None) → Lists (list_below n entries) entries
  whole n none = record {
    apart = all_apart n;
    same = λ space page. elim (cases_lt page n) [
      | inl h ↦ there n space page h
      | inr h ↦ past n space page h ∙ sym (none space page h)
    ];
  }

pub entries_are_listed : EntriesAreListed
entries_are_listed s ram = whole (shadowed s ram).entries (2 ^ 20) (λ space page h. entries_past (placed s) ram space page h)
