-- The first faulty line.
use Rattle.std.proofs.Common.{◌≡◌, [], ◌∷◌, ◌++◌}
use Rattle.std.specs.Prelude.{Result, Ok, Err}
use Rattle.mb_lines.specs.Results.{◌>>=◌}
use Rattle.mb_syntax.specs.Lines.{statement_in}
use Rattle.mb_asm.specs.Layouts.{after_line}
use Rattle.mb_asm.specs.Judged.{judged_line, address_or_zero}
use Rattle.mb_asm.specs.Texts.{Fault, at_line, chunks_from, with_laid}
use Rattle.mb_asm.specs.Laws.{FirstFaultStays}

-- a step and what stands behind it: a fault of the step is that of both, and a fault behind it stays where it stays there
step_stays : {A B : Type 0} (first : Result A Fault) (f g : A → Result B Fault) (fault : Fault)
    → ((x : A) → f x ≡ Err fault → g x ≡ Err fault) → (first >>= f) ≡ Err fault → (first >>= g) ≡ Err fault
step_stays (Ok x) f g fault later is = later x is
step_stays (Err e) f g fault later is = is

pub first_stays : FirstFaultStays
first_stays symbols layout chunks [] behind fault is = absurd cc
first_stays symbols layout chunks (line ∷ lines) behind fault is =
    step_stays (at_line line.number (judged_line symbols layout line.characters (statement_in line.characters)))
    (λ laid. chunks_from symbols (after_line layout line) (with_laid chunks (address_or_zero layout.at) laid) lines)
    (λ laid. chunks_from symbols (after_line layout line) (with_laid chunks (address_or_zero layout.at) laid) (lines ++ behind))
    fault
    (λ laid. first_stays symbols (after_line layout line) (with_laid chunks (address_or_zero layout.at) laid) lines behind fault)
    is
