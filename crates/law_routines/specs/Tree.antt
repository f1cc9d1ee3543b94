-- Routines by their calls alone.
use Rattle.mb_port.specs.Routine.{Call, Answer, Routine, Return, Ask, Then}

-- the calls of a routine, each with what follows from its answer
pub data Tree (A : Type 0) : Type 0 where
  Done : A → Tree A
  Do : (c : Call) → (Answer c → Tree A) → Tree A

abbrev pub graft : {A B : Type 0} → Tree A → (A → Tree B) → Tree B
graft (Done a) f = f a
graft (Do c next) f = Do c (λ answer. graft (next answer) f)

abbrev pub tree_of : {A : Type 0} → Routine A → Tree A
tree_of (Return a) = Done a
tree_of (Ask c) = Do c (λ answer. Done answer)
tree_of (Then m f) = graft (tree_of m) (λ a. tree_of (f a))

-- a tree as a routine
abbrev pub routine_of : {A : Type 0} → Tree A → Routine A
routine_of (Done a) = Return a
routine_of (Do c next) = Then (Ask c) (λ answer. routine_of (next answer))
