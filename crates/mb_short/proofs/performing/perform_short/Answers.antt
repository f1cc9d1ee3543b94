use Rattle.std.proofs.Common.{◌≡◌, true, refl}
use Rattle.mb_table.specs.declared.short.Short.{Short}
use Rattle.mb_table.specs.declared.short.Short.TheVariants as short
use Rattle.mb_short.specs.Always.{asks_nothing, is_of_registers_by_parts}
use Rattle.mb_short.proofs.performing.perform_short.Given.{Over}
use Rattle.mb_short.proofs.performing.perform_short.Goals as goal

-- of the forms that are left those ask nothing whose parts name a register
by_parts : (g : Over) (c : goal.After-perform_followed g) (s : Short) → c.args.short.now ≡ s → asks_nothing s ≡ true → is_of_registers_by_parts s ≡ true
by_parts g c (short.TakeRegister taking size register) e h = refl
by_parts g c (short.Change change size n) e h = refl
by_parts g c (short.MoveQuick x y) e h = absurd (c.in_default.not-MoveQuick x y e)
by_parts g c (short.ShiftRightLong x y) e h = absurd (c.in_default.not-ShiftRightLong x y e)
by_parts g c (short.AddQuickLong x y) e h = absurd (c.in_default.not-AddQuickLong x y e)
by_parts g c (short.SubtractQuickLong x y) e h = absurd (c.in_default.not-SubtractQuickLong x y e)
by_parts g c (short.TestLong x) e h = absurd (c.in_default.not-TestLong x e)
by_parts g c (short.Swap x) e h = absurd (c.in_default.not-Swap x e)
by_parts g c (short.ExtendWord x) e h = absurd (c.in_default.not-ExtendWord x e)
by_parts g c (short.CopyLong x y) e h = absurd (c.in_default.not-CopyLong x y e)
by_parts g c (short.AddLong x y) e h = absurd (c.in_default.not-AddLong x y e)
by_parts g c (short.SubtractLong x y) e h = absurd (c.in_default.not-SubtractLong x y e)
by_parts g c (short.AndLong x y) e h = absurd (c.in_default.not-AndLong x y e)
by_parts g c (short.OrLong x y) e h = absurd (c.in_default.not-OrLong x y e)
by_parts g c (short.ExclusiveOrLong x y) e h = absurd (c.in_default.not-ExclusiveOrLong x y e)
by_parts g c (short.CompareLong x y) e h = absurd (c.in_default.not-CompareLong x y e)
by_parts g c (short.MultiplyUnsigned x y) e h = absurd (c.in_default.not-MultiplyUnsigned x y e)
by_parts g c (short.MultiplySigned x y) e h = absurd (c.in_default.not-MultiplySigned x y e)
by_parts g c (short.RaiseAddress x y z) e h = absurd (c.in_default.not-RaiseAddress x y z e)
by_parts g c (short.LowerAddress x y z) e h = absurd (c.in_default.not-LowerAddress x y z e)
by_parts g c (short.Branch x y) e h = absurd (c.in_default.not-Branch x y e)
by_parts g c _ e h = h

pub returns-in_default-clause-always : goal.returns-in_default-clause-always
returns-in_default-clause-always g c = λ asks. c.perform_followed.ensures.always (by_parts g c c.args.short.now refl asks)
