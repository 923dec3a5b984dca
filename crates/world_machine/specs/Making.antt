-- The events of `create`, `shadow` and `fork`: the monitor step that begins, and then one page an event; and the event of `grant`.
use Rattle.std.specs.Prelude.{ℕ, ◌+◌, Bool, if◌then◌else◌, List, [], length, Option, Some, None, slice_get, unwrap_or}
use Rattle.pl_base.specs.declared.number.EncNo.{EncNo}
use Rattle.pl_base.specs.declared.refusal.No.{No}
use Rattle.pl_base.specs.declared.refusal.No.TheVariants as refused
use Rattle.mem_ctl.specs.Data.{going}
use Rattle.mon_enclave.specs.Records.{enclave_at}
use Rattle.mon_image.specs.declared.image.Image.{Image}
use Rattle.mon_life.specs.Making.{PagesTaken, create_begun}
use Rattle.mon_life.specs.Putting.{CreatePut, create_put}
use Rattle.mon_shadow.specs.Forking.{fork_begun}
use Rattle.mon_shadow.specs.Granting.{grant_made}
use Rattle.pl_history.specs.declared.answer.Answer.TheVariants as answer_is
use Rattle.pl_history.specs.declared.setup.SetupParts.{SetupParts}
use Rattle.pl_history.specs.Protection.{pmp_of}
use Rattle.world_machine.specs.declared.under.Under.{Under}
use Rattle.world_machine.specs.declared.under.Under.TheVariants.{Putting}
use Rattle.world_machine.specs.Answering.{answers, begins, decided, goes_on, quiet}
use Rattle.world_machine.specs.Worlds.{Event, WorldData}

-- an image of the setup by its number, and an empty one for another number
abbrev pub image_of : SetupParts → ℕ → Image
image_of setup number = unwrap_or (slice_get setup.images number) (record { entry = 0; pages = [] })

-- a line is refused where there is a cause, and else begins
abbrev pub begins_unless : Option No → WorldData → ℕ → Under → WorldData
begins_unless (Some cause) w hart under = answers w hart (answer_is.No cause)
begins_unless None w hart under = begins w hart under

-- as an enclave, or as a shadow
abbrev pub begin_create : WorldData → ℕ → ℕ → ℕ → List ℕ → Bool → Event
begin_create w hart e image pages shadow =
    let begun : PagesTaken = create_begun w.owners w.enclaves (pmp_of w.setup) e image (image_of w.setup image) pages shadow in
    quiet (begins_unless begun.refusal (record w { owners = begun.owners; enclaves = begun.enclaves }) hart (Putting 0))

-- a forked number has its shadow's pages, so that the first step puts its root table
abbrev pub begin_fork : WorldData → ℕ → EncNo → ℕ → List ℕ → Event
begin_fork w hart shadow e pages =
    let begun : PagesTaken = fork_begun w.owners w.enclaves (pmp_of w.setup) shadow e pages in
    quiet (begins_unless begun.refusal (record w { owners = begun.owners; enclaves = begun.enclaves }) hart
    (Putting (length (image_of w.setup (enclave_at w.enclaves shadow.0).image).pages)))

-- the number is made with its last page; a fault ends the line too
abbrev pub put_next : (List ℕ → List ℕ) → WorldData → ℕ → List ℕ → ℕ → ℕ → Bool → ℕ → Event
put_next digest_of w hart positions e image shadow done =
    let step : CreatePut = create_put digest_of w.setup.tables e (image_of w.setup image) shadow done w.enclaves (going w.ctl positions) in
    let left : WorldData = record w { ctl = step.put.after.ctl; enclaves = step.enclaves } in
    record {
      world = decided left
          (λ last. if last then answers left hart answer_is.Ok else goes_on left hart (Putting (done + 1)))
          (λ place. answers left hart (answer_is.No (refused.Fault place)))
          step.put.outcome;
      shown = step.put.after.shown;
    }

-- a line that is answered at once, by a refusal or `ok`
abbrev pub answers_by : Option No → WorldData → ℕ → WorldData
answers_by (Some cause) w hart = answers w hart (answer_is.No cause)
answers_by None w hart = answers w hart answer_is.Ok

-- the page is a spare of the number
abbrev pub grants_page : WorldData → ℕ → ℕ → ℕ → Event
grants_page w hart e page =
    let made : PagesTaken = grant_made w.owners w.enclaves (pmp_of w.setup) e page in
    quiet (answers_by made.refusal (record w { owners = made.owners; enclaves = made.enclaves }) hart)
