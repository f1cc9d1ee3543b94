use Rattle.std.proofs.Common.{◌≡◌, ◌+◌, ◌-◌, ◌≤◌, length, ap, arith, length-append}
use Rattle.mb_gen.specs.Draws.{draws}
use Rattle.mb_gen.specs.Programs.{way_back}
use Rattle.mb_gen.specs.Seen.{generator_seen}
use Rattle.mb_gen.proofs.Laps.{length-draws}
use Rattle.mb_gen.proofs.Programs.{lap_bytes, back_over, way_back-le, written}
use Rattle.mb_gen.proofs.program.program.Goals as goal

pub overflow_sub-way_back-2 : goal.overflow_sub-way_back-2
overflow_sub-way_back-2 c =
    let g = generator_seen c.args.generator.now in
    let taken = draws 2000 g in
    let few : length taken ≤ 2000 = omega (arith, length-draws 2000 g) in
    omega (
      arith,
      way_back-le taken few,
      back_over taken,
      ap length c.in_ok-push_lap.ensures.lap,
      length-append c.push_words.new.bytes.items (lap_bytes taken),
    )

pub returns-clause-bytes : goal.returns-clause-bytes
returns-clause-bytes c =
    let taken = draws 2000 (generator_seen c.args.generator.now) in
    let entered = c.push_words.new.bytes.items in
    let back : c.len.result + 2 - c.len-lap.result ≡ way_back taken =
    omega (arith, back_over taken, ap length c.in_ok-push_lap.ensures.lap, length-append entered (lap_bytes taken)) in
    written taken entered c.push_lap.new.bytes.items c.push_words-2.new.bytes.items _ (c.len.result + 2 - c.len-lap.result)
    (cc (c.in_ok-push_words.ensures, c.new-bytes.ensures.items)) c.in_ok-push_lap.ensures.lap back c.in_ok-push_words-2.ensures c.in_ok-push_words-3.ensures
