use Rattle.std.proofs.Common.{refl}
use Rattle.mb_program.proofs.EndLemmas.{by_gift}
use Rattle.mb_program.proofs.command.run_words.Goals as goal

pub returns-in-Ok-Gen-clause-ends : goal.returns-in-Ok-Gen-clause-ends
returns-in-Ok-Gen-clause-ends g c =
    rw (c.in-Ok-Gen.ensures, c.in-Ok-Gen.field-0-is) (by_gift _ _ _ refl c.show_generated.ensures)

pub returns-in-Ok-Bare-clause-ends : goal.returns-in-Ok-Bare-clause-ends
returns-in-Ok-Bare-clause-ends g c = rw (c.in-Ok-Bare.ensures, c.in-Ok-Bare.field-0-is) (c.run_bare.ensures c.args.native.now)

pub returns-in-Ok-Asm-clause-ends : goal.returns-in-Ok-Asm-clause-ends
returns-in-Ok-Asm-clause-ends g c = rw (c.in-Ok-Asm.ensures, c.in-Ok-Asm.field-0-is) (c.run_asm.ensures c.args.native.now)

pub returns-in-Ok-Dis-clause-ends : goal.returns-in-Ok-Dis-clause-ends
returns-in-Ok-Dis-clause-ends g c = rw (c.in-Ok-Dis.ensures, c.in-Ok-Dis.field-0-is) (c.run_dis.ensures c.args.native.now)

pub returns-in-Ok-Host-clause-ends : goal.returns-in-Ok-Host-clause-ends
returns-in-Ok-Host-clause-ends g c = rw (c.in-Ok-Host.ensures, c.in-Ok-Host.field-0-is) c.run_host.ensures

pub returns-in-Ok-Compare-clause-ends : goal.returns-in-Ok-Compare-clause-ends
returns-in-Ok-Compare-clause-ends g c = rw (c.in-Ok-Compare.ensures, c.in-Ok-Compare.field-0-is) c.run_compare.ensures

pub returns-in-Ok-Debug-clause-ends : goal.returns-in-Ok-Debug-clause-ends
returns-in-Ok-Debug-clause-ends g c = rw (c.in-Ok-Debug.ensures, c.in-Ok-Debug.field-0-is) c.run_debug.ensures

pub returns-in-Ok-Save-clause-ends : goal.returns-in-Ok-Save-clause-ends
returns-in-Ok-Save-clause-ends g c = rw (c.in-Ok-Save.ensures, c.in-Ok-Save.field-0-is) c.run_save.ensures.ends

pub returns-in-Ok-Save-clause-saved : goal.returns-in-Ok-Save-clause-saved
returns-in-Ok-Save-clause-saved g c = rw (c.in-Ok-Save.ensures, c.in-Ok-Save.field-0-is) c.run_save.ensures.saved

pub returns-in-Ok-Resume-clause-ends : goal.returns-in-Ok-Resume-clause-ends
returns-in-Ok-Resume-clause-ends g c = rw (c.in-Ok-Resume.ensures, c.in-Ok-Resume.field-0-is) c.run_resume.ensures

-- the other commands save nothing
pub returns-in-Ok-Bare-clause-saved : goal.returns-in-Ok-Bare-clause-saved
returns-in-Ok-Bare-clause-saved g c = rw (c.in-Ok-Bare.ensures, c.in-Ok-Bare.field-0-is) (λ p s asked gets zero. absurd cc)

pub returns-in-Ok-Asm-clause-saved : goal.returns-in-Ok-Asm-clause-saved
returns-in-Ok-Asm-clause-saved g c = rw (c.in-Ok-Asm.ensures, c.in-Ok-Asm.field-0-is) (λ p s asked gets zero. absurd cc)

pub returns-in-Ok-Dis-clause-saved : goal.returns-in-Ok-Dis-clause-saved
returns-in-Ok-Dis-clause-saved g c = rw (c.in-Ok-Dis.ensures, c.in-Ok-Dis.field-0-is) (λ p s asked gets zero. absurd cc)

pub returns-in-Ok-Host-clause-saved : goal.returns-in-Ok-Host-clause-saved
returns-in-Ok-Host-clause-saved g c = rw (c.in-Ok-Host.ensures, c.in-Ok-Host.field-0-is) (λ p s asked gets zero. absurd cc)

pub returns-in-Ok-Compare-clause-saved : goal.returns-in-Ok-Compare-clause-saved
returns-in-Ok-Compare-clause-saved g c = rw (c.in-Ok-Compare.ensures, c.in-Ok-Compare.field-0-is) (λ p s asked gets zero. absurd cc)

pub returns-in-Ok-Gen-clause-saved : goal.returns-in-Ok-Gen-clause-saved
returns-in-Ok-Gen-clause-saved g c = rw (c.in-Ok-Gen.ensures, c.in-Ok-Gen.field-0-is) (λ p s asked gets zero. absurd cc)

pub returns-in-Ok-Debug-clause-saved : goal.returns-in-Ok-Debug-clause-saved
returns-in-Ok-Debug-clause-saved g c = rw (c.in-Ok-Debug.ensures, c.in-Ok-Debug.field-0-is) (λ p s asked gets zero. absurd cc)

pub returns-in-Ok-Resume-clause-saved : goal.returns-in-Ok-Resume-clause-saved
returns-in-Ok-Resume-clause-saved g c = rw (c.in-Ok-Resume.ensures, c.in-Ok-Resume.field-0-is) (λ p s asked gets zero. absurd cc)
