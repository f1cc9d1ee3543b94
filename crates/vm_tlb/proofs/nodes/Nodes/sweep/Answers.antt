use Rattle.std.proofs.Common.{◌≡◌, ◌∙◌, ◌<◌, ℕ, [], true, false, ap, sym, subst, refl, arith, length}
use Rattle.mb_model.specs.Keeping.{covers}
use Rattle.law_links.specs.Paths.{walk}
use Rattle.vm_tlb.specs.Links.{links_of, order}
use Rattle.vm_tlb.proofs.Flushes.{Sweeping, swept, swept_all, leads}
use Rattle.vm_tlb.proofs.NodeReads.{node_read}
use Rattle.vm_tlb.proofs.nodes.Nodes.sweep.Goals as goal

pub loop-at-init : goal.loop-at-init
loop-at-init c =
    let l = links_of c.args.self.now in
    record {
      sound = c.requires;
      swept = record { done = []; ahead = order l; all = refl; left = refl; kept = refl; stands = leads l.newer 256 (order l) c.requires.1.ring };
    }

pub index-requires : goal.index-requires
index-requires c =
    let i = c.loop-at.invariant in
    let s = swept c.args.what (links_of c.args.self.now) (links_of c.loop-at.self) c.requires.1 i.sound.1 c.loop-at.at i.swept c.loop-at-test.true in
    omega (arith, s.low, i.sound.0.0)

pub unlink-requires-clause-sound : goal.unlink-requires-clause-sound
unlink-requires-clause-sound c = c.loop-at.invariant.sound

pub unlink-requires-clause-live : goal.unlink-requires-clause-live
unlink-requires-clause-live c =
    let i = c.loop-at.invariant in
    let s = swept c.args.what (links_of c.args.self.now) (links_of c.loop-at.self) c.requires.1 i.sound.1 c.loop-at.at i.swept c.loop-at-test.true in
    (s.front, s.back, s.here)

pub loop-at-smaller-then-is_covered : goal.loop-at-smaller-then-is_covered
loop-at-smaller-then-is_covered c =
    let i = c.loop-at.invariant in
    let l = links_of c.args.self.now in
    let s = swept c.args.what l (links_of c.loop-at.self) c.requires.1 i.sound.1 c.loop-at.at i.swept c.loop-at-test.true in
    let r = node_read c.loop-at.self c.loop-at.at c.index.result.now i.sound.0 s.low c.index.ensures in
    subst (λ (n : ℕ). length (walk 256 l.newer 256 n) < length (walk 256 l.newer 256 c.loop-at.at)) r.newer s.fewer

pub loop-at-preserved-then-is_covered : goal.loop-at-preserved-then-is_covered
loop-at-preserved-then-is_covered c =
    let i = c.loop-at.invariant in
    let s = swept c.args.what (links_of c.args.self.now) (links_of c.loop-at.self) c.requires.1 i.sound.1 c.loop-at.at i.swept c.loop-at-test.true in
    let r = node_read c.loop-at.self c.loop-at.at c.index.result.now i.sound.0 s.low c.index.ensures in
    let t : covers c.args.what ((links_of c.loop-at.self).kept c.loop-at.at) ≡ true =
    ap (covers c.args.what) r.kept ∙ sym c.is_covered.ensures ∙ c.if-is_covered.true in
    record {
      sound = c.unlink.ensures.sound;
      swept = subst (Sweeping c.args.what (links_of c.args.self.now) (links_of c.unlink.new.self)) r.newer
          (s.goes t (links_of c.unlink.new.self) (c.unlink.ensures.order s.front s.back s.here) c.unlink.ensures.kept);
    }

pub loop-at-smaller : goal.loop-at-smaller
loop-at-smaller c =
    let i = c.loop-at.invariant in
    let l = links_of c.args.self.now in
    let s = swept c.args.what l (links_of c.loop-at.self) c.requires.1 i.sound.1 c.loop-at.at i.swept c.loop-at-test.true in
    let r = node_read c.loop-at.self c.loop-at.at c.index.result.now i.sound.0 s.low c.index.ensures in
    subst (λ (n : ℕ). length (walk 256 l.newer 256 n) < length (walk 256 l.newer 256 c.loop-at.at)) r.newer s.fewer

pub loop-at-preserved : goal.loop-at-preserved
loop-at-preserved c =
    let i = c.loop-at.invariant in
    let s = swept c.args.what (links_of c.args.self.now) (links_of c.loop-at.self) c.requires.1 i.sound.1 c.loop-at.at i.swept c.loop-at-test.true in
    let r = node_read c.loop-at.self c.loop-at.at c.index.result.now i.sound.0 s.low c.index.ensures in
    let f : covers c.args.what ((links_of c.loop-at.self).kept c.loop-at.at) ≡ false =
    ap (covers c.args.what) r.kept ∙ sym c.is_covered.ensures ∙ c.if-is_covered.false in
    record {
      sound = i.sound;
      swept = subst (Sweeping c.args.what (links_of c.args.self.now) (links_of c.loop-at.self)) r.newer (s.rests f);
    }

pub returns-clause-sound : goal.returns-clause-sound
returns-clause-sound c = c.loop-at.invariant.sound

pub returns-clause-entries : goal.returns-clause-entries
returns-clause-entries c =
    let i = c.loop-at.invariant in
    swept_all c.args.what (links_of c.args.self.now) (links_of c.loop-at.self) c.requires.1 i.sound.1 c.loop-at.at i.swept c.loop-at-test.false
