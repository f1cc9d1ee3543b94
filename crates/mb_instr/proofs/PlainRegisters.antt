-- The registers that user mode sees, put into all registers and read back.
use Rattle.std.proofs.Common.{◌≡◌, ◌∙◌, ◌<◌, ℕ, ◌/◌, ◌%◌, ◌^◌, ◌==◌, Bool, true, false, cond, List, [], ◌∷◌, ◌++◌}
use Rattle.std.proofs.Common.{take, length, arith, refl, ap}
use Rattle.std.specs.Prelude.{slice_index}
use Rattle.mb_instr.specs.declared.registers.Plain.{Plain}
use Rattle.mb_instr.specs.declared.registers.Regs.{Regs}
use Rattle.mb_instr.specs.Registers.{is_supervisor, is_master, interrupt_mask, active_stack, plain_of, with_plain, with_stack, with_ccr}

-- ---- the rest of the status register stays

pub high15 : (sr ccr : ℕ) → with_ccr sr ccr / 2 ^ 15 ≡ sr / 2 ^ 15
high15 sr ccr = omega arith

pub high14 : (sr ccr : ℕ) → with_ccr sr ccr / 2 ^ 14 ≡ sr / 2 ^ 14
high14 sr ccr = omega arith

high13 : (sr ccr : ℕ) → with_ccr sr ccr / 2 ^ 13 ≡ sr / 2 ^ 13
high13 sr ccr = omega arith

high12 : (sr ccr : ℕ) → with_ccr sr ccr / 2 ^ 12 ≡ sr / 2 ^ 12
high12 sr ccr = omega arith

high8 : (sr ccr : ℕ) → with_ccr sr ccr / 2 ^ 8 ≡ sr / 2 ^ 8
high8 sr ccr = omega arith

pub same_supervisor : (sr ccr : ℕ) → is_supervisor (with_ccr sr ccr) ≡ is_supervisor sr
same_supervisor sr ccr = ap (λ (n : ℕ). n % 2 == 1) (high13 sr ccr)

pub same_master : (sr ccr : ℕ) → is_master (with_ccr sr ccr) ≡ is_master sr
same_master sr ccr = ap (λ (n : ℕ). n % 2 == 1) (high12 sr ccr)

pub same_mask : (sr ccr : ℕ) → interrupt_mask (with_ccr sr ccr) ≡ interrupt_mask sr
same_mask sr ccr = ap (λ (n : ℕ). n % 2 ^ 3) (high8 sr ccr)

low : (sr ccr : ℕ) → with_ccr sr ccr % 2 ^ 5 ≡ ccr % 2 ^ 5
low sr ccr = omega arith

-- ---- what was put in is read back

-- what is read back
abbrev pub tidy : Plain → Plain
tidy p = record { d = p.d; a = take 7 p.a ++ slice_index p.a 7 ∷ []; pc = p.pc; ccr = p.ccr % 2 ^ 5 }

-- the active stack pointer that was set
stack_by : (s m : Bool) (r : Regs) (top : ℕ) → let q = cond s (cond m (record r { msp = top }) (record r { isp = top })) (record r { usp = top }) in
    cond s (cond m q.msp q.isp) q.usp ≡ top
stack_by true true r top = refl
stack_by true false r top = refl
stack_by false m r top = refl

stack_again : (r : Regs) (p : Plain) → active_stack (with_plain r p) ≡ slice_index p.a 7
stack_again r p =
    let q = with_stack r (slice_index p.a 7) in
    ap (λ (s : Bool). cond s (cond (is_master (with_ccr r.sr p.ccr)) q.msp q.isp) q.usp) (same_supervisor r.sr p.ccr)
    ∙ ap (λ (m : Bool). cond (is_supervisor r.sr) (cond m q.msp q.isp) q.usp) (same_master r.sr p.ccr)
    ∙ stack_by (is_supervisor r.sr) (is_master r.sr) r (slice_index p.a 7)

abbrev of_parts : List ℕ → List ℕ → ℕ → ℕ → Plain
of_parts d a pc ccr = record { d = d; a = a; pc = pc; ccr = ccr }

pub plain_again : (r : Regs) (p : Plain) → plain_of (with_plain r p) ≡ tidy p
plain_again r p =
    ap (λ (top : ℕ). of_parts p.d (take 7 p.a ++ top ∷ []) p.pc (with_ccr r.sr p.ccr % 2 ^ 5)) (stack_again r p)
    ∙ ap (λ (ccr : ℕ). of_parts p.d (take 7 p.a ++ slice_index p.a 7 ∷ []) p.pc ccr) (low r.sr p.ccr)

eight : (xs : List ℕ) → length xs ≡ 8 → take 7 xs ++ slice_index xs 7 ∷ [] ≡ xs
eight (a ∷ b ∷ c ∷ d ∷ e ∷ f ∷ g ∷ h ∷ []) n = refl
eight _ n = absurd (omega arith)

five : (ccr : ℕ) → ccr < 32 → ccr % 2 ^ 5 ≡ ccr
five ccr less = omega arith

-- eight address registers and five condition codes are read back as they are
pub plain_found : (r : Regs) (p : Plain) → length p.a ≡ 8 → p.ccr < 32 → plain_of (with_plain r p) ≡ p
plain_found r p n less =
    plain_again r p
    ∙ ap (λ (a : List ℕ). of_parts p.d a p.pc (p.ccr % 2 ^ 5)) (eight p.a n)
    ∙ ap (λ (ccr : ℕ). of_parts p.d p.a p.pc ccr) (five p.ccr less)

-- ---- put in over others

same_high : (sr q p : ℕ) → with_ccr (with_ccr sr q) p ≡ with_ccr sr p
same_high sr q p = omega arith

abbrev stacked_by : Bool → Bool → Regs → ℕ → Regs
stacked_by s m r top = cond s (cond m (record r { msp = top }) (record r { isp = top })) (record r { usp = top })

-- registers with these, by S and M
abbrev pub set_by : Bool → Bool → Regs → ℕ → List ℕ → List ℕ → ℕ → ℕ → Regs
set_by s m r top d a pc sr = record (stacked_by s m r top) { d = d; a = a; pc = pc; sr = sr }

set_twice : (s m : Bool) (r : Regs) (t u : ℕ) (d e a b : List ℕ) (pc at sr st : ℕ)
    → set_by s m (set_by s m r t d a pc sr) u e b at st ≡ set_by s m r u e b at st
set_twice true true r t u d e a b pc at sr st = refl
set_twice true false r t u d e a b pc at sr st = refl
set_twice false m r t u d e a b pc at sr st = refl

pub plain_over : (r : Regs) (q p : Plain) → with_plain (with_plain r q) p ≡ with_plain r p
plain_over r q p =
    let s = is_supervisor r.sr in
    let m = is_master r.sr in
    let t = slice_index q.a 7 in
    let u = slice_index p.a 7 in
    let f = set_by s m r t q.d (take 7 q.a) q.pc (with_ccr r.sr q.ccr) in
    let st = with_ccr (with_ccr r.sr q.ccr) p.ccr in
    ap (λ (b : Bool). set_by b (is_master (with_ccr r.sr q.ccr)) f u p.d (take 7 p.a) p.pc st) (same_supervisor r.sr q.ccr)
    ∙ ap (λ (b : Bool). set_by s b f u p.d (take 7 p.a) p.pc st) (same_master r.sr q.ccr)
    ∙ set_twice s m r t u q.d p.d (take 7 q.a) (take 7 p.a) q.pc p.pc (with_ccr r.sr q.ccr) st
    ∙ ap (λ (n : ℕ). set_by s m r u p.d (take 7 p.a) p.pc n) (same_high r.sr q.ccr p.ccr)

-- ---- put in as they were

pub seven : (xs : List ℕ) (top : ℕ) → length xs ≡ 7 → (take 7 (xs ++ top ∷ []) ≡ xs) × (slice_index (xs ++ top ∷ []) 7 ≡ top)
seven (a ∷ b ∷ c ∷ d ∷ e ∷ f ∷ g ∷ []) top h = (refl, refl)
seven _ top h = absurd (omega arith)

stack_same : (s m : Bool) (r : Regs) → stacked_by s m r (cond s (cond m r.msp r.isp) r.usp) ≡ r
stack_same true true r = refl
stack_same true false r = refl
stack_same false m r = refl

ccr_same : (sr : ℕ) → with_ccr sr (sr % 2 ^ 5) ≡ sr
ccr_same sr = omega arith

pub plain_same : (r : Regs) → length r.a ≡ 7 → with_plain r (plain_of r) ≡ r
plain_same r h =
    let s = is_supervisor r.sr in
    let m = is_master r.sr in
    let top = active_stack r in
    let (first, last) = seven r.a top h in
    ap (λ (u : ℕ). set_by s m r u r.d (take 7 (r.a ++ top ∷ [])) r.pc (with_ccr r.sr (r.sr % 2 ^ 5))) last
    ∙ ap (λ (a : List ℕ). set_by s m r top r.d a r.pc (with_ccr r.sr (r.sr % 2 ^ 5))) first
    ∙ ap (λ (n : ℕ). set_by s m r top r.d r.a r.pc n) (ccr_same r.sr)
    ∙ ap (λ (q : Regs). (let o : Regs = record q { d = r.d; a = r.a; pc = r.pc; sr = r.sr } in o)) (stack_same s m r)

-- of the condition codes five bits count
pub ccr_again : (sr ccr : ℕ) → with_ccr sr (ccr % 2 ^ 5) ≡ with_ccr sr ccr
ccr_again sr ccr = omega arith

pub plain_tidy : (r : Regs) (p : Plain) → length (take 7 p.a) ≡ 7 → with_plain r (tidy p) ≡ with_plain r p
plain_tidy r p h =
    let s = is_supervisor r.sr in
    let m = is_master r.sr in
    let top = slice_index p.a 7 in
    let (first, last) = seven (take 7 p.a) top h in
    ap (λ (u : ℕ). set_by s m r u p.d (take 7 (take 7 p.a ++ top ∷ [])) p.pc (with_ccr r.sr (p.ccr % 2 ^ 5))) last
    ∙ ap (λ (a : List ℕ). set_by s m r top p.d a p.pc (with_ccr r.sr (p.ccr % 2 ^ 5))) first
    ∙ ap (λ (n : ℕ). set_by s m r top p.d (take 7 p.a) p.pc n) (ccr_again r.sr p.ccr)
