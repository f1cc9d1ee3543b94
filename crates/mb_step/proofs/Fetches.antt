-- The fetch of an instruction, with one more word.
use Rattle.std.proofs.lemmas.Bool.Decides.{nat_tests}
use Rattle.std.proofs.Common.{◌≡◌, ◌≢◌, Bool, arith, ap, ℕ, suc, ◌+◌, ◌-◌, ◌%◌, ◌^◌, ◌==◌, true, false, List, [], ◌∷◌, ◌++◌, Result, Ok, Err, refl, sym, ◌∙◌}
use Rattle.mb_port.specs.Routine.{Bus, Routine, Return, Then, caught, run, Fetch}
use Rattle.mb_port.specs.declared.types.Space.{Space}
use Rattle.mb_port.specs.declared.types.Fault.{Fault}
use Rattle.mb_instr.specs.declared.instruction.Instr.{Instr}
use Rattle.mb_instr.specs.declared.vectors.TheConstants.{ODD_COUNTER, ILLEGAL}
use Rattle.mb_model.specs.declared.processor.Cpu.{Cpu}
use Rattle.mb_model.specs.Status.{space_of}
use Rattle.mb_decode.specs.declared.front.Decoded.{Decoded}
use Rattle.mb_decode.specs.declared.front.Decoded.TheVariants.{Whole, More}
use Rattle.mb_decode.specs.Decodes.{decode_of}
use Rattle.mb_ea.specs.Reading.{refused_in}
use Rattle.def_instructions.specs.Attempt.{NoInstruction, Unfetched, FoundInstr, illegal, found_of, by_decoded}
use Rattle.mb_instr.specs.declared.counts.TheConstants.{MOST_WORDS}
use Rattle.def_processor.specs.Raise.{Stepped, refuse_of}
use Rattle.def_processor.specs.Step.{finish_unread_of, execute_of, execute_next_of}
use Rattle.def_processor.specs.declared.Finish.{Finish}
use Rattle.mb_step.specs.Fetching.{Sought, Word, sought_of, word_of, found_executed, behind}

abbrev Answered : {S : Type 0} → Bus S → Space → ℕ → S → Result ℕ Fault → S → Type 0
Answered bus space at s answer t = bus (Fetch space at) s ≡ (answer, t)

-- a word came, and what follows goes by what the words are now
fetched : {S : Type 0} (bus : Bus S) (m n : ℕ) (space : Space) (at : ℕ) (words : List ℕ) (word : ℕ) (s t : S) (now : List ℕ) (d : Decoded) → m ≡ suc n
    → Answered bus space at s (Ok word) t → now ≡ words ++ word ∷ [] → d ≡ decode_of now
    → run bus (found_of m space at words) s ≡ run bus (by_decoded d (found_of n space ((at + 2) % 2 ^ 32) now)) t
unfolding found_of
fetched bus m n space at words word s t now d e h w k = rw (e, found_of, h, k, w) refl

-- no word came
unfetched : {S : Type 0} (bus : Bus S) (m n : ℕ) (space : Space) (at : ℕ) (words : List ℕ) (fault : Fault) (s t : S) → m ≡ suc n
    → Answered bus space at s (Err fault) t
    → run bus (found_of m space at words) s ≡ (Err (Unfetched (refused_in at fault)), t)
unfolding found_of
unfetched bus m n space at words fault s t e h = rw (e, found_of, h) refl

-- no more words are asked for
exhausted : {S : Type 0} (bus : Bus S) (m : ℕ) (space : Space) (at : ℕ) (words : List ℕ) (s : S) → m ≡ 0
    → run bus (found_of m space at words) s ≡ (Err illegal, s)
unfolding found_of
exhausted bus m space at words s e = rw (e, found_of) refl

-- ---- the rest of the words, which are sought: where they are none the step ends

-- an instruction whose words so far are these
abbrev pub seeking : {S : Type 0} → Bus S → Cpu → Space → ℕ → ℕ → List ℕ → S → Sought × S
seeking bus cpu space m at words s = run bus (sought_of cpu (found_of m space at words)) s

-- what is answered by an answer of the fetch
abbrev pub seek : {S : Type 0} → Bus S → Cpu → FoundInstr × S → Sought × S
seek bus cpu found = run bus (sought_of cpu (Return found.0)) found.1

-- the answer where the step has ended
abbrev pub ending : {S : Type 0} → Stepped × S → Sought × S
ending stepped = ((Err stepped.0.0, stepped.0.1), stepped.1)

pub seeking_on : {S : Type 0} (bus : Bus S) (cpu : Cpu) (m n : ℕ) (space : Space) (at : ℕ) (words : List ℕ) (word : ℕ) (s t : S) (now : List ℕ) (d : Decoded)
    → m ≡ suc n → Answered bus space at s (Ok word) t → now ≡ words ++ word ∷ [] → d ≡ decode_of now
    → seeking bus cpu space m at words s
    ≡ run bus (sought_of cpu (by_decoded d (found_of n space ((at + 2) % 2 ^ 32) now))) t
seeking_on bus cpu m n space at words word s t now d e h w k = ap (seek bus cpu) (fetched bus m n space at words word s t now d e h w k)

-- `q` is the same processor, as the code has it then
pub seeking_without : {S : Type 0} (bus : Bus S) (cpu q : Cpu) (m n : ℕ) (space : Space) (at : ℕ) (words : List ℕ) (fault : Fault) (s t : S)
    (stepped : Stepped × S) → m ≡ suc n → Answered bus space at s (Err fault) t → q ≡ cpu → run bus (finish_unread_of (refused_in at fault) q) t ≡ stepped
    → seeking bus cpu space m at words s ≡ ending stepped
seeking_without bus cpu q m n space at words fault s t stepped e h k r =
    ap (seek bus cpu) (unfetched bus m n space at words fault s t e h) ∙ ap ending (rw (sym k) r)

pub seeking_no_more : {S : Type 0} (bus : Bus S) (cpu q : Cpu) (m : ℕ) (space : Space) (at : ℕ) (words : List ℕ) (s : S) (stepped : Stepped × S)
    → m ≡ 0 → q ≡ cpu → run bus (refuse_of ILLEGAL q) s ≡ stepped → seeking bus cpu space m at words s ≡ ending stepped
seeking_no_more bus cpu q m space at words s stepped e k r =
    ap (seek bus cpu) (exhausted bus m space at words s e) ∙ ap ending (rw (sym k) r)

-- no instruction begins so
pub seeking_none : {S : Type 0} (bus : Bus S) (cpu q : Cpu) (vector : ℕ) (t : S) (stepped : Stepped × S)
    → q ≡ cpu → run bus (refuse_of vector q) t ≡ stepped
    → run bus (sought_of cpu (Return (Err (NoInstruction vector)))) t ≡ ending stepped
seeking_none bus cpu q vector t stepped k r = ap ending (rw (sym k) r)

-- an instruction was found
pub seeking_whole : {S : Type 0} (bus : Bus S) (cpu q : Cpu) (more : Routine FoundInstr) (t : S) (d : Decoded) (i : Instr) (n : ℕ)
    → d ≡ Whole i n → q ≡ cpu
    → run bus (sought_of cpu (by_decoded d more)) t ≡ ((Ok (i, n), q), t)
seeking_whole bus cpu q more t d i n h k = rw (h, k) refl

-- what the words are so far
pub seeking_judged : {S : Type 0} (bus : Bus S) (cpu : Cpu) (more : Routine FoundInstr) (t : S) (now : List ℕ) (d : Decoded) → d ≡ decode_of now
    → run bus (sought_of cpu (by_decoded (decode_of now) more)) t ≡ run bus (sought_of cpu (by_decoded d more)) t
seeking_judged bus cpu more t now d h = rw (sym h) refl

-- ---- all words, which are carried out once they are an instruction

-- what is done with an answer of the fetch
abbrev pub doing : {S : Type 0} → Bus S → Cpu → FoundInstr × S → Stepped × S
doing bus cpu found = run bus (found_executed cpu (Return found.0)) found.1

-- what follows the first word, by what it is found to begin with
pub begun_as : {S : Type 0} (bus : Bus S) (cpu : Cpu) (first : ℕ) (s : S) (found d : Decoded) → found ≡ decode_of (first ∷ []) → found ≡ d
    → run bus (found_executed cpu (by_decoded (decode_of (first ∷ [])) (behind cpu first))) s ≡ run bus (found_executed cpu (by_decoded d (behind cpu first))) s
begun_as bus cpu first s found d e h = ap (λ (x : Decoded). run bus (found_executed cpu (by_decoded x (behind cpu first))) s) (sym e ∙ h)

-- it begins no instruction
pub begins_none : {S : Type 0} (bus : Bus S) (cpu : Cpu) (vector : ℕ) (t : S)
    → run bus (found_executed cpu (Return (Err (NoInstruction vector)))) t ≡ run bus (refuse_of vector cpu) t
begins_none bus cpu vector t = refl

-- it is an instruction
pub is_whole : {S : Type 0} (bus : Bus S) (cpu : Cpu) (more : Routine FoundInstr) (t : S) (d : Decoded) (i : Instr) (n : ℕ) → d ≡ Whole i n
    → run bus (found_executed cpu (by_decoded d more)) t ≡ run bus (execute_of i n cpu) t
is_whole bus cpu more t d i n h = rw (h) refl

-- what follows an answer: the instruction is carried out, or the step has ended
abbrev pub carried : {S : Type 0} → Bus S → Result (Instr × ℕ) Finish → Cpu → S → Stepped × S
carried bus (Ok found) cpu s = run bus (execute_of found.0 found.1 cpu) s
carried bus (Err end) cpu s = ((end, cpu), s)

carried_on : {S : Type 0} (bus : Bus S) (cpu : Cpu) (answer : FoundInstr) (s : S)
    → doing bus cpu (answer, s) ≡ carried bus (seek bus cpu (answer, s)).0.0 (seek bus cpu (answer, s)).0.1 (seek bus cpu (answer, s)).1
carried_on bus cpu (Ok found) s = refl
carried_on bus cpu (Err end) s = refl

-- more words were sought, with this answer
sought : {S : Type 0} (bus : Bus S) (cpu q : Cpu) (more : Routine FoundInstr) (s t : S) (answer : Result (Instr × ℕ) Finish)
    → run bus (sought_of cpu more) s ≡ ((answer, q), t) → run bus (found_executed cpu more) s ≡ carried bus answer q t
sought bus cpu q more s t answer h =
    carried_on bus cpu (run bus more s).0 (run bus more s).1
    ∙ ap (λ (found : Sought × _). carried bus found.0.0 found.0.1 found.1) h

-- what follows the first two words, by what these are
abbrev pub by_two : Cpu → ℕ → ℕ → Routine FoundInstr
by_two cpu first second =
    by_decoded (decode_of (first ∷ second ∷ []))
    (found_of (MOST_WORDS - 2) (space_of cpu) (((cpu.regs.pc + 2) % 2 ^ 32 + 2) % 2 ^ 32) (first ∷ second ∷ []))

-- it has more words: the second came, and what the two are, or begin, was sought, with this answer
pub has_more : {S : Type 0} (bus : Bus S) (cpu q : Cpu) (space : Space) (first second : ℕ) (s t u : S) (answer : Result (Instr × ℕ) Finish)
    → space ≡ space_of cpu → Answered bus space ((cpu.regs.pc + 2) % 2 ^ 32) s (Ok second) t
    → run bus (sought_of cpu (by_two cpu first second)) t ≡ ((answer, q), u)
    → run bus (found_executed cpu (behind cpu first)) s ≡ carried bus answer q u
has_more bus cpu q space first second s t u answer k h found =
    ap (doing bus cpu)
    (fetched bus (MOST_WORDS - 1) (MOST_WORDS - 2) (space_of cpu) ((cpu.regs.pc + 2) % 2 ^ 32) (first ∷ []) second s t (first ∷ second ∷ [])
    (decode_of (first ∷ second ∷ [])) refl (rw (sym k) h) refl refl)
    ∙ sought bus cpu q (by_two cpu first second) t u answer found

-- it has more words: the second came, and the two are an instruction
pub two_words : {S : Type 0} (bus : Bus S) (cpu : Cpu) (space : Space) (first second : ℕ) (s t : S) (i : Instr)
    → space ≡ space_of cpu → Answered bus space ((cpu.regs.pc + 2) % 2 ^ 32) s (Ok second) t → decode_of (first ∷ second ∷ []) ≡ Whole i 2
    → run bus (found_executed cpu (behind cpu first)) s ≡ run bus (execute_of i 2 cpu) t
two_words bus cpu space first second s t i k h e =
    ap (doing bus cpu)
    (fetched bus (MOST_WORDS - 1) (MOST_WORDS - 2) (space_of cpu) ((cpu.regs.pc + 2) % 2 ^ 32) (first ∷ []) second s t (first ∷ second ∷ [])
    (Whole i 2) refl (rw (sym k) h) refl (sym e))

-- it has more words: the second and the third came, and the three are an instruction
pub three_words : {S : Type 0} (bus : Bus S) (cpu : Cpu) (first second third : ℕ) (s t u : S) (i : Instr)
    → Answered bus (space_of cpu) ((cpu.regs.pc + 2) % 2 ^ 32) s (Ok second) t
    → Answered bus (space_of cpu) (((cpu.regs.pc + 2) % 2 ^ 32 + 2) % 2 ^ 32) t (Ok third) u
    → decode_of (first ∷ second ∷ []) ≡ More → decode_of (first ∷ second ∷ third ∷ []) ≡ Whole i 3
    → run bus (found_executed cpu (behind cpu first)) s ≡ run bus (execute_of i 3 cpu) u
three_words bus cpu first second third s t u i h k more e =
    ap (doing bus cpu)
    (fetched bus (MOST_WORDS - 1) (MOST_WORDS - 2) (space_of cpu) ((cpu.regs.pc + 2) % 2 ^ 32) (first ∷ []) second s t (first ∷ second ∷ [])
    More refl h refl (sym more)
    ∙ fetched bus (MOST_WORDS - 2) (MOST_WORDS - 3) (space_of cpu) (((cpu.regs.pc + 2) % 2 ^ 32 + 2) % 2 ^ 32) (first ∷ second ∷ []) third t u
    (first ∷ second ∷ third ∷ []) (Whole i 3) refl k refl (sym e))

-- it has more words, and the second did not come
no_second_word : {S : Type 0} (bus : Bus S) (cpu : Cpu) (space : Space) (first : ℕ) (fault : Fault) (s t : S)
    → space ≡ space_of cpu → Answered bus space ((cpu.regs.pc + 2) % 2 ^ 32) s (Err fault) t
    → run bus (found_executed cpu (behind cpu first)) s ≡ run bus (finish_unread_of (refused_in ((cpu.regs.pc + 2) % 2 ^ 32) fault) cpu) t
no_second_word bus cpu space first fault s t k h =
    ap (doing bus cpu)
    (unfetched bus (MOST_WORDS - 1) (MOST_WORDS - 2) (space_of cpu) ((cpu.regs.pc + 2) % 2 ^ 32) (first ∷ []) fault s t refl (rw (sym k) h))

-- at an odd PC nothing is fetched
at_odd : {S : Type 0} (bus : Bus S) (cpu : Cpu) (s : S) (odd : Bool) → (cpu.regs.pc % 2 == 1) ≡ odd → odd ≡ true
    → run bus (execute_next_of cpu) s ≡ run bus (refuse_of ODD_COUNTER cpu) s
at_odd bus cpu s odd e h = rw (e, h) refl

equal : (a b : ℕ) → a ≡ b → (a == b) ≡ true
equal a b h = grind (arith, nat_tests)

pub instruction_at_odd : {S : Type 0} (bus : Bus S) (cpu : Cpu) (s : S) → cpu.regs.pc % 2 ≡ 1
    → run bus (execute_next_of cpu) s ≡ run bus (refuse_of ODD_COUNTER cpu) s
instruction_at_odd bus cpu s h = at_odd bus cpu s _ refl (equal (cpu.regs.pc % 2) 1 h)

-- at an even PC it begins without a word
begun : {S : Type 0} (bus : Bus S) (cpu : Cpu) (s : S) (odd : Bool) → (cpu.regs.pc % 2 == 1) ≡ odd → odd ≡ false
    → run bus (execute_next_of cpu) s ≡ run bus (found_executed cpu (found_of MOST_WORDS (space_of cpu) cpu.regs.pc [])) s
begun bus cpu s odd e h = rw (e, h) refl

unequal : (a b : ℕ) → a ≢ b → (a == b) ≡ false
unequal a b h = grind (arith, nat_tests)

-- the first word came, and what follows goes by what it is alone
pub first_word : {S : Type 0} (bus : Bus S) (cpu : Cpu) (space : Space) (word : ℕ) (s t : S) (d : Decoded)
    → cpu.regs.pc % 2 ≢ 1 → space ≡ space_of cpu → Answered bus space cpu.regs.pc s (Ok word) t → d ≡ decode_of (word ∷ [])
    → run bus (execute_next_of cpu) s
    ≡ run bus (found_executed cpu (by_decoded d (behind cpu word))) t
first_word bus cpu space word s t d even k h e =
    begun bus cpu s _ refl (unequal (cpu.regs.pc % 2) 1 even)
    ∙ ap (doing bus cpu) (fetched bus MOST_WORDS (MOST_WORDS - 1) (space_of cpu) cpu.regs.pc [] word s t (word ∷ []) d refl (rw (sym k) h) refl e)

-- the first word did not come
no_first_word : {S : Type 0} (bus : Bus S) (cpu : Cpu) (space : Space) (fault : Fault) (s t : S)
    → cpu.regs.pc % 2 ≢ 1 → space ≡ space_of cpu → Answered bus space cpu.regs.pc s (Err fault) t
    → run bus (execute_next_of cpu) s ≡ run bus (finish_unread_of (refused_in cpu.regs.pc fault) cpu) t
no_first_word bus cpu space fault s t even k h =
    begun bus cpu s _ refl (unequal (cpu.regs.pc % 2) 1 even)
    ∙ ap (doing bus cpu) (unfetched bus MOST_WORDS (MOST_WORDS - 1) (space_of cpu) cpu.regs.pc [] fault s t refl (rw (sym k) h))

-- ---- one word, which came, or did not and ended the step

-- the answer where the step has ended
abbrev ended_word : {S : Type 0} → Stepped × S → Word × S
ended_word stepped = ((Err stepped.0.0, stepped.0.1), stepped.1)

-- what is made of an answer of the bus
abbrev worded : {S : Type 0} → Bus S → Cpu → ℕ → Result ℕ Fault × S → Word × S
worded bus cpu at (Ok word, t) = ((Ok word, cpu), t)
worded bus cpu at (Err fault, t) = ended_word (run bus (finish_unread_of (refused_in at fault) cpu) t)

abbrev asked : {S : Type 0} → Bus S → Cpu → ℕ → Result ℕ Fault × S → Word × S
asked bus cpu at r = run bus (caught (Return r.0)
    (λ fault. Then (finish_unread_of (refused_in at fault) cpu) (λ stepped. Return (Err stepped.0, stepped.1)))
    (λ word. Return (Ok word, cpu))) r.1

asked_is : {S : Type 0} (bus : Bus S) (cpu : Cpu) (at : ℕ) (r : Result ℕ Fault × S) → asked bus cpu at r ≡ worded bus cpu at r
asked_is bus cpu at (Ok word, t) = refl
asked_is bus cpu at (Err fault, t) = refl

abbrev known : Result ℕ Fault → Result ℕ Finish → Result ℕ Fault
known answer (Ok word) = Ok word
known answer (Err end) = answer

came_by : {S : Type 0} (bus : Bus S) (cpu q : Cpu) (at word : ℕ) (t : S) (r : Result ℕ Fault × S) → worded bus cpu at r ≡ ((Ok word, q), t)
    → r ≡ (Ok word, t)
came_by bus cpu q at word t (Ok w, u) h = ap (λ (x : Word × _). (known (Ok w) x.0.0, x.1)) h
came_by bus cpu q at word t (Err fault, u) h = absurd (let e = ap (λ (x : Word × _). x.0.0) h in let z : ⊥ = cc in z)

-- it came
pub word_came : {S : Type 0} (bus : Bus S) (cpu q : Cpu) (space : Space) (at word : ℕ) (s t : S)
    → run bus (word_of cpu space at) s ≡ ((Ok word, q), t) → Answered bus space at s (Ok word) t
word_came bus cpu q space at word s t h =
    came_by bus cpu q at word t (bus (Fetch space at) s) (sym (asked_is bus cpu at (bus (Fetch space at) s)) ∙ h)

abbrev finish_in : Finish → Result ℕ Finish → Finish
finish_in other (Ok word) = other
finish_in other (Err end) = end

-- what has become of it where it did not come
ended_by : {S : Type 0} (bus : Bus S) (cpu q : Cpu) (at : ℕ) (end : Finish) (t : S) (r : Result ℕ Fault × S) (x : Stepped × S)
    → ((fault : Fault) (u : S) → r ≡ (Err fault, u) → x ≡ run bus (finish_unread_of (refused_in at fault) cpu) u)
    → worded bus cpu at r ≡ ((Err end, q), t) → x ≡ ((end, q), t)
ended_by bus cpu q at end t (Ok w, u) x refused h = absurd (let e = ap (λ (y : Word × _). y.0.0) h in let z : ⊥ = cc in z)
ended_by bus cpu q at end t (Err fault, u) x refused h =
    refused fault u refl ∙ ap (λ (y : Word × _). ((finish_in end y.0.0, y.0.1), y.1)) h

-- the first did not come
pub first_ended : {S : Type 0} (bus : Bus S) (cpu q : Cpu) (space : Space) (end : Finish) (s t : S) → cpu.regs.pc % 2 ≢ 1
    → space ≡ space_of cpu → run bus (word_of cpu space cpu.regs.pc) s ≡ ((Err end, q), t) → run bus (execute_next_of cpu) s ≡ ((end, q), t)
first_ended bus cpu q space end s t even k h =
    let at = cpu.regs.pc in
    ended_by bus cpu q at end t (bus (Fetch space at) s) (run bus (execute_next_of cpu) s)
    (λ (fault : Fault) (u : _) e. no_first_word bus cpu space fault s u even k e) (sym (asked_is bus cpu at (bus (Fetch space at) s)) ∙ h)

-- the second did not
pub second_ended : {S : Type 0} (bus : Bus S) (cpu q : Cpu) (space : Space) (first : ℕ) (end : Finish) (s t : S) → space ≡ space_of cpu
    → run bus (word_of cpu space ((cpu.regs.pc + 2) % 2 ^ 32)) s ≡ ((Err end, q), t)
    → run bus (found_executed cpu (behind cpu first)) s ≡ ((end, q), t)
second_ended bus cpu q space first end s t k h =
    let at = (cpu.regs.pc + 2) % 2 ^ 32 in
    ended_by bus cpu q at end t (bus (Fetch space at) s) (run bus (found_executed cpu (behind cpu first)) s)
    (λ (fault : Fault) (u : _) e. no_second_word bus cpu space first fault s u k e) (sym (asked_is bus cpu at (bus (Fetch space at) s)) ∙ h)

-- ---- a further word of those that are sought, which came, or did not and ended the step

-- it came, and what follows goes by what the words are now
pub seeking_came : {S : Type 0} (bus : Bus S) (cpu q : Cpu) (m n : ℕ) (space word_space : Space) (at : ℕ) (words : List ℕ) (word : ℕ) (s t : S)
    (now : List ℕ) (d : Decoded) → m ≡ suc n → word_space ≡ space → run bus (word_of cpu word_space at) s ≡ ((Ok word, q), t)
    → now ≡ words ++ word ∷ [] → d ≡ decode_of now
    → seeking bus cpu space m at words s
    ≡ run bus (sought_of cpu (by_decoded d (found_of n space ((at + 2) % 2 ^ 32) now))) t
seeking_came bus cpu q m n space word_space at words word s t now d e k h w j =
    seeking_on bus cpu m n space at words word s t now d e (rw (sym k) (word_came bus cpu q word_space at word s t h)) w j

-- it did not come
sought_ended : {S : Type 0} (bus : Bus S) (cpu q : Cpu) (at : ℕ) (end : Finish) (t : S) (r : Result ℕ Fault × S) (x : Sought × S)
    → ((fault : Fault) (u : S) → r ≡ (Err fault, u) → x ≡ ending (run bus (finish_unread_of (refused_in at fault) cpu) u))
    → worded bus cpu at r ≡ ((Err end, q), t) → x ≡ ((Err end, q), t)
sought_ended bus cpu q at end t (Ok w, u) x refused h = absurd (let e = ap (λ (y : Word × _). y.0.0) h in let z : ⊥ = cc in z)
sought_ended bus cpu q at end t (Err fault, u) x refused h =
    refused fault u refl ∙ ap (λ (y : Word × _). ending ((finish_in end y.0.0, y.0.1), y.1)) h

pub seeking_ended : {S : Type 0} (bus : Bus S) (cpu q : Cpu) (m n : ℕ) (space word_space : Space) (at : ℕ) (words : List ℕ) (end : Finish) (s t : S)
    → m ≡ suc n → word_space ≡ space → run bus (word_of cpu word_space at) s ≡ ((Err end, q), t)
    → seeking bus cpu space m at words s ≡ ((Err end, q), t)
seeking_ended bus cpu q m n space word_space at words end s t e k h =
    sought_ended bus cpu q at end t (bus (Fetch word_space at) s) (seeking bus cpu space m at words s)
    (λ (fault : Fault) (u : _) r. seeking_without bus cpu cpu m n space at words fault s u _ e (rw (sym k) r) refl refl)
    (sym (asked_is bus cpu at (bus (Fetch word_space at) s)) ∙ h)
