-- What instructions in short say.
use Rattle.std.specs.Prelude.{◌≡◌, ◌==◌, ⊤, ℕ, Bool, if◌then◌else◌, ◌/◌, ◌<◌, ◌^◌, [], ◌∷◌, Option, Some, None, IfSome, false, true}
use Rattle.mb_instr.specs.declared.size.Size.TheVariants.{Byte, Word, Long}
use Rattle.mb_instr.specs.declared.kinds.ShiftKind.TheVariants.{Logical}
use Rattle.mb_instr.specs.declared.operand.Ea.TheVariants.{Dn, An, Ind, Post, Disp, Index, AbsL, PcDisp}
use Rattle.mb_instr.specs.declared.operand.Ext.TheVariants.{Brief}
use Rattle.mb_instr.specs.FurtherWords.{extension_word}
use Rattle.mb_instr.specs.declared.rule.WordRule.TheVariants.{LongPair}
use Rattle.mb_instr.specs.Rules.{holds}
use Rattle.mb_instr.specs.declared.instruction.Instr.{Instr}
use Rattle.mb_instr.specs.declared.instruction.Instr.TheVariants as instr
use Rattle.mb_instr.specs.declared.instruction.Move.TheVariants as move
use Rattle.mb_instr.specs.declared.instruction.Arith.TheVariants as arith
use Rattle.mb_instr.specs.declared.instruction.Flow.TheVariants as flow
use Rattle.mb_instr.specs.declared.kinds.Branch.TheVariants as branch
use Rattle.mb_instr.specs.declared.kinds.Condition.TheVariants as condition
use Rattle.mb_instr.specs.declared.kinds.BitKind.TheVariants as bit
use Rattle.mb_instr.specs.declared.kinds.Exchange.TheVariants as exchange
use Rattle.mb_instr.specs.Operands.{long_words}
use Rattle.mb_instr.specs.Codes.{IsInstr}
use Rattle.mb_decode.specs.declared.front.Decoded.TheVariants.{Whole, More}
use Rattle.mb_decode.specs.Decodes.{decode_of}
use Rattle.mb_table.specs.declared.short.Short.{Short}
use Rattle.mb_table.specs.declared.short.Short.TheVariants as short
use Rattle.mb_table.specs.FirstWords.{alone}
use Rattle.mb_table.specs.Forms.{register_ea, place_ea, taking_of, immediate_of, putting_of, update_of, copy_of, change_of}

-- the instruction of one word that a short form is
abbrev pub meaning : Short → Option Instr
meaning (short.MoveQuick n value) = Some (instr.Move (move.Moveq n value))
meaning (short.CopyLong n m) = Some (instr.Move (move.Move Long (Dn n) (Dn m)))
meaning (short.AddLong n m) = Some (instr.Arith (arith.Add n false Long (Dn m)))
meaning (short.SubtractLong n m) = Some (instr.Arith (arith.Sub n false Long (Dn m)))
meaning (short.AndLong n m) = Some (instr.Arith (arith.And n false Long (Dn m)))
meaning (short.OrLong n m) = Some (instr.Arith (arith.Or n false Long (Dn m)))
meaning (short.ExclusiveOrLong n m) = Some (instr.Arith (arith.Eor m Long (Dn n)))
meaning (short.CompareLong n m) = Some (instr.Arith (arith.Cmp n Long (Dn m)))
meaning (short.MultiplyUnsigned n m) = Some (instr.Arith (arith.MulW n false (Dn m)))
meaning (short.MultiplySigned n m) = Some (instr.Arith (arith.MulW n true (Dn m)))
meaning (short.ShiftRightLong n count) = Some (instr.Arith (arith.ShiftReg count false Long false Logical n))
meaning (short.LoadLongUp n m) = Some (instr.Move (move.Move Long (Dn n) (Post m)))
meaning (short.StoreLongUp n m) = Some (instr.Move (move.Move Long (Post m) (Dn n)))
meaning (short.Branch c d) = Some (instr.Flow (flow.Bcc c (branch.Byte d)))
meaning (short.AddQuickLong n quick) = Some (instr.Arith (arith.Addq quick Long (Dn n)))
meaning (short.SubtractQuickLong n quick) = Some (instr.Arith (arith.Subq quick Long (Dn n)))
meaning (short.TestLong n) = Some (instr.Arith (arith.Tst Long (Dn n)))
meaning (short.TakeRegister taking size register) = Some (taking_of taking size (register_ea register))
meaning (short.TakeMemory taking size place) = Some (taking_of taking size (place_ea place))
meaning (short.PutMemory putting size place) = Some (putting_of putting size (place_ea place))
meaning (short.UpdateMemory update size place) = Some (update_of update size (place_ea place))
meaning (short.Change change size n) = Some (change_of change size n)
meaning (short.RaiseAddress size n quick) = Some (instr.Arith (arith.Addq quick size (An n)))
meaning (short.LowerAddress size n quick) = Some (instr.Arith (arith.Subq quick size (An n)))
meaning (short.Swap n) = Some (instr.Move (move.Swap n))
meaning (short.ExchangeData n m) = Some (instr.Move (move.Exg n exchange.Data m))
meaning (short.ExtendWord n) = Some (instr.Arith (arith.ExtL n))
meaning short.Return = Some (instr.Flow flow.Rts)
meaning (short.Call d) = Some (instr.Flow (flow.Bcc condition.False (branch.Byte d)))
meaning (short.Unlink n) = Some (instr.Move (move.Unlk n))
meaning _ = None

-- an extension word is brief
abbrev pub is_brief : ℕ → Bool
is_brief word = (extension_word word).is_full == 0

-- a word names the registers of a product or a quotient of longs
abbrev pub is_pair : ℕ → Bool
is_pair word = holds LongPair word

-- an instruction, where its second word is of this kind
abbrev pub only_if : Bool → Instr → Option Instr
only_if is i = if is then Some i else None

-- the instruction of two words that it is with this second one
abbrev pub meaning_with : ℕ → Short → Option Instr
meaning_with d (short.LoadLong n m) = Some (instr.Move (move.Move Long (Dn n) (Disp m d)))
meaning_with d (short.StoreLong n m) = Some (instr.Move (move.Move Long (Disp m d) (Dn n)))
meaning_with d (short.BranchFar c) = Some (instr.Flow (flow.Bcc c (branch.Word d)))
meaning_with d (short.Loop c n) = Some (instr.Flow (flow.Dbcc c n d))
meaning_with d (short.TakeNear taking size m) = Some (taking_of taking size (Disp m d))
meaning_with d (short.TakeImmediate taking Byte) = Some (immediate_of taking Byte d)
meaning_with d (short.TakeImmediate taking Word) = Some (immediate_of taking Word d)
meaning_with d (short.TakeIndexed taking size m) = only_if (is_brief d) (taking_of taking size (Index m (Brief d)))
meaning_with d (short.PutIndexed putting size m) = only_if (is_brief d) (putting_of putting size (Index m (Brief d)))
meaning_with d (short.AddressIndexed n m) = only_if (is_brief d) (instr.Move (move.Lea n (Index m (Brief d))))
meaning_with d (short.PutNear putting size m) = Some (putting_of putting size (Disp m d))
meaning_with d (short.UpdateNear update size m) = Some (update_of update size (Disp m d))
meaning_with d (short.CopyNear size m place) = Some (copy_of size (place_ea place) (Disp m d))
meaning_with d (short.CopyToNear size n m) = Some (copy_of size (Disp m d) (Ind n))
meaning_with d (short.DivideLong n) = only_if (is_pair d) (instr.Arith (arith.DivL (Dn n) d))
meaning_with d (short.MultiplyLong n) = only_if (is_pair d) (instr.Arith (arith.MulL (Dn n) d))
meaning_with d (short.TestBit n) = Some (instr.Arith (arith.BitImm bit.Test (Dn n) d))
meaning_with d (short.AddressFromCounter n) = Some (instr.Move (move.Lea n (PcDisp d)))
meaning_with d (short.AddressNear n m) = Some (instr.Move (move.Lea n (Disp m d)))
meaning_with d short.CallFar = Some (instr.Flow (flow.Bcc condition.False (branch.Word d)))
meaning_with d (short.Link n) = Some (instr.Move (move.LinkW n d))
meaning_with d _ = None

-- the instruction of three words that it is with this long, which the second word and the third are
abbrev pub meaning_with_long : ℕ → Short → Option Instr
meaning_with_long value (short.TakeImmediate taking Long) = Some (immediate_of taking Long value)
meaning_with_long value (short.TakeAbsolute taking size) = Some (taking_of taking size (AbsL value))
meaning_with_long value (short.PutAbsolute putting size) = Some (putting_of putting size (AbsL value))
meaning_with_long value (short.AddressAbsolute n) = Some (instr.Move (move.Lea n (AbsL value)))
meaning_with_long value _ = None

-- a first word is that instruction by itself
abbrev pub IsAlone : ℕ → Instr → Type 0
IsAlone first i = (alone first ≡ Whole i 1) × IsInstr i

-- a first word is that instruction with this second one
abbrev pub IsWith : ℕ → ℕ → Instr → Type 0
IsWith first second i = (alone first ≡ More) × (decode_of (first ∷ second ∷ []) ≡ Whole i 2) × IsInstr i

-- a first word is that instruction with this long
abbrev pub IsWithLong : ℕ → ℕ → Instr → Type 0
IsWithLong first value i =
    (alone first ≡ More) × (decode_of (first ∷ value / 2 ^ 16 ∷ []) ≡ More)
    × (decode_of (first ∷ long_words value) ≡ Whole i 3) × IsInstr i

-- the short form of a first word: with more words it is right whatever these are
abbrev pub IsShort : ℕ → Short → Type 0
IsShort first s =
    IfSome (meaning s) (IsAlone first)
    × ((second : ℕ) → second < 2 ^ 16 → IfSome (meaning_with second s) (IsWith first second))
    × ((value : ℕ) → value < 2 ^ 32 → IfSome (meaning_with_long value s) (IsWithLong first value))

-- it is no instruction of several words
abbrev pub IsOfOneWord : Short → Type 0
IsOfOneWord s = ((second : ℕ) → meaning_with second s ≡ None) × ((value : ℕ) → meaning_with_long value s ≡ None)

-- where a form has second words of a kind, this is one
abbrev pub IsOfKind : ℕ → Short → Type 0
IsOfKind second (short.TakeIndexed taking size m) = is_brief second ≡ true
IsOfKind second (short.PutIndexed putting size m) = is_brief second ≡ true
IsOfKind second (short.AddressIndexed n m) = is_brief second ≡ true
IsOfKind second (short.DivideLong n) = is_pair second ≡ true
IsOfKind second (short.MultiplyLong n) = is_pair second ≡ true
IsOfKind second _ = ⊤

-- it is one of two words, of which this is the second, or none
abbrev pub IsOfTwoWords : ℕ → Short → Type 0
IsOfTwoWords second s = (meaning s ≡ None) × ((value : ℕ) → meaning_with_long value s ≡ None) × IsOfKind second s

-- it is one of three words, or none
abbrev pub IsOfThreeWords : Short → Type 0
IsOfThreeWords s = (meaning s ≡ None) × ((second : ℕ) → meaning_with second s ≡ None)
