use Rattle.std.proofs.Common.{◌≡◌, Err, Ok, List, Result, subst}
use Rattle.std.specs.Prelude.{◌*◌, Vec}
use Rattle.std.specs.declared.alloc.Global.{Global}
use Rattle.std.proofs.lemmas.Result.{err_from_is_err_and}
use Rattle.mb_script.specs.Answers.{plan_said}
use Rattle.mb_script.specs.Plan.{Guest, Plan}
use Rattle.vm_guest.specs.Session.{GuestAtStart}
use Rattle.mb_files.specs.Reading.{gives}
use Rattle.mb_files.specs.Shelves.{ShelfSeen}
use Rattle.mb_files.specs.Reads.{IsRead}
use Rattle.mb_files.specs.declared.fault.FileFault.{FileFault}
use Rattle.mb_program.specs.Files.{Ordered, guests_files}
use Rattle.mb_program.specs.Said.{ordered_said}
use Rattle.mb_program.specs.declared.ordered.OrderedSession.{OrderedSession}
use Rattle.mb_files.proofs.ReadingLemmas.{read_ends, read_made}
use Rattle.mb_program.proofs.guest_reading.read_planned.Goals as goal

abbrev session_by : Plan → List GuestAtStart → Ordered
session_by plan guests = record { session = record { board = 1024 * plan.board; slice = plan.slice; guests = guests }; order = plan.order }

-- the guests of a plan are those that are read
planned : {Y : Type 0} (read behind : List Guest) (view : Y → List GuestAtStart) (t u : ShelfSeen) (r : Result Y FileFault) → read ≡ behind
    → IsRead (guests_files read) view t u r → IsRead (guests_files behind) view t u r
planned read behind view t u r same h = subst (λ (guests : List Guest). IsRead (guests_files guests) view t u r) same h

pub returns-in_err-guests-clause-read : goal.returns-in_err-guests-clause-read
returns-in_err-guests-clause-read g c =
    let plan = plan_said c.args.plan in
    let end = c.in_err-guests.field-0.0 in
    let items = λ (guests : Vec GuestAtStart Global). guests.items in
    let p = err_from_is_err_and c.from_residual.result c.from_residual.ensures.1 in
    rw (p.1, p.2) (read_ends (guests_files plan.guests) (λ guests. gives (session_by plan guests)) items ordered_said _ _ end
    (planned _ _ items _ _ (Err end) c.guests.ensures c.in_err-guests.ensures.read))

pub returns-clause-read : goal.returns-clause-read
returns-clause-read g c =
    let plan = plan_said c.args.plan in
    let guests = c.in_ok-guests.guests in
    let items = λ (guests : Vec GuestAtStart Global). guests.items in
    let ordered : OrderedSession = record { session = c.new-session.result; order = c.into_order-order.result } in
    let same : ordered_said ordered ≡ session_by plan guests.items =
    cc (c.new-session.ensures, c.board.ensures, c.slice.ensures, c.into_order-order.ensures) in
    read_made (guests_files plan.guests) (session_by plan) items ordered_said _ _ guests ordered same
    (planned _ _ items _ _ (Ok guests) c.guests.ensures c.in_ok-guests.ensures.read)
