use Rattle.std.proofs.Common.{◌≡◌, ◌≢◌, ◌∙◌, ◌==◌, true, false, Some, sym, ap, arith, length, map}
use Rattle.std.proofs.lemmas.Bool.Decides.{nat_tests}
use Rattle.vm_tlb.specs.Links.{links_of, entries}
use Rattle.vm_tlb.proofs.Fills.{room_at, room_oldest, room_none, most}
use Rattle.vm_tlb.proofs.nodes.Nodes.make_room.Goals as goal

pub take-requires-clause-live : goal.take-requires-clause-live
take-requires-clause-live c =
    let r = room_at (links_of c.args.self.now) c.requires.sound.1 c.requires.apart c.args.kept c.place_of-at.result c.place_of-at.ensures.place
    c.if-at-ne-END.true in
    (r.xs, r.ys, r.is)

pub returns-then-at-ne-END-clause-entries : goal.returns-then-at-ne-END-clause-entries
returns-then-at-ne-END-clause-entries c =
    let r = room_at (links_of c.args.self.now) c.requires.sound.1 c.requires.apart c.args.kept c.place_of-at.result c.place_of-at.ensures.place
    c.if-at-ne-END.true in
    (λ i. map (c.take.ensures.kept i) (c.take.ensures.order r.xs r.ys r.is i)) ∙ r.left

pub returns-then-at-ne-END-clause-few : goal.returns-then-at-ne-END-clause-few
returns-then-at-ne-END-clause-few c =
    let r = room_at (links_of c.args.self.now) c.requires.sound.1 c.requires.apart c.args.kept c.place_of-at.result c.place_of-at.ensures.place
    c.if-at-ne-END.true in
    omega (arith, ap length (c.take.ensures.order r.xs r.ys r.is), r.few)

pub returns-then-at-ne-END-clause-gone : goal.returns-then-at-ne-END-clause-gone
returns-then-at-ne-END-clause-gone c =
    let r = room_at (links_of c.args.self.now) c.requires.sound.1 c.requires.apart c.args.kept c.place_of-at.result c.place_of-at.ensures.place
    c.if-at-ne-END.true in
    ap Some c.take.ensures.gone ∙ r.went

pub take-requires-then-is_full-clause-live : goal.take-requires-then-is_full-clause-live
take-requires-then-is_full-clause-live c =
    let l = links_of c.args.self.now in
    let t : (length (entries l) == 256) ≡ true = sym c.is_full.ensures ∙ c.if-is_full.true in
    let f : length (entries l) ≡ 256 = grind (arith, nat_tests) in
    let r = room_oldest l c.requires.sound.1 c.requires.apart c.args.kept (sym c.place_of-at.ensures.place ∙ c.if-at-ne-END.false) f in
    (r.xs, r.ys, r.is)

pub returns-then-is_full-clause-entries : goal.returns-then-is_full-clause-entries
returns-then-is_full-clause-entries c =
    let l = links_of c.args.self.now in
    let t : (length (entries l) == 256) ≡ true = sym c.is_full.ensures ∙ c.if-is_full.true in
    let f : length (entries l) ≡ 256 = grind (arith, nat_tests) in
    let r = room_oldest l c.requires.sound.1 c.requires.apart c.args.kept (sym c.place_of-at.ensures.place ∙ c.if-at-ne-END.false) f in
    (λ i. map (c.take-then-is_full.ensures.kept i) (c.take-then-is_full.ensures.order r.xs r.ys r.is i)) ∙ r.left

pub returns-then-is_full-clause-few : goal.returns-then-is_full-clause-few
returns-then-is_full-clause-few c =
    let l = links_of c.args.self.now in
    let t : (length (entries l) == 256) ≡ true = sym c.is_full.ensures ∙ c.if-is_full.true in
    let f : length (entries l) ≡ 256 = grind (arith, nat_tests) in
    let r = room_oldest l c.requires.sound.1 c.requires.apart c.args.kept (sym c.place_of-at.ensures.place ∙ c.if-at-ne-END.false) f in
    omega (arith, ap length (c.take-then-is_full.ensures.order r.xs r.ys r.is), r.few)

pub returns-then-is_full-clause-gone : goal.returns-then-is_full-clause-gone
returns-then-is_full-clause-gone c =
    let l = links_of c.args.self.now in
    let t : (length (entries l) == 256) ≡ true = sym c.is_full.ensures ∙ c.if-is_full.true in
    let f : length (entries l) ≡ 256 = grind (arith, nat_tests) in
    let r = room_oldest l c.requires.sound.1 c.requires.apart c.args.kept (sym c.place_of-at.ensures.place ∙ c.if-at-ne-END.false) f in
    ap Some c.take-then-is_full.ensures.gone ∙ r.went

pub returns-clause-entries : goal.returns-clause-entries
returns-clause-entries c =
    let l = links_of c.args.self.now in
    let t : (length (entries l) == 256) ≡ false = sym c.is_full.ensures ∙ c.if-is_full.false in
    let d : length (entries l) ≢ 256 = grind (arith, nat_tests) in
    (room_none l c.requires.sound.1 c.requires.apart c.args.kept (sym c.place_of-at.ensures.place ∙ c.if-at-ne-END.false)
    (omega (arith, most l c.requires.sound.1, d))).0

pub returns-clause-gone : goal.returns-clause-gone
returns-clause-gone c =
    let l = links_of c.args.self.now in
    let t : (length (entries l) == 256) ≡ false = sym c.is_full.ensures ∙ c.if-is_full.false in
    let d : length (entries l) ≢ 256 = grind (arith, nat_tests) in
    (room_none l c.requires.sound.1 c.requires.apart c.args.kept (sym c.place_of-at.ensures.place ∙ c.if-at-ne-END.false)
    (omega (arith, most l c.requires.sound.1, d))).1
