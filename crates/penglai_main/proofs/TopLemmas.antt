-- What a run's status says of the whole call; what a command that runs nothing says doesn't depend on the rules that name the slot to evict.
use Rattle.std.proofs.Common.{ℕ, List, Option, Ok, Err, inl, inr, refl, sym, subst}
use Rattle.sha2.specs.Sha256.{sha256}
use Rattle.toml.specs.declared.de.error.Error.{Error}
use Rattle.pl_history.specs.declared.setup.SetupParts.{SetupParts}
use Rattle.pl_history.specs.declared.setup.ChoiceName.{ChoiceName}
use Rattle.world_machine.specs.declared.turned.Finished.{Finished}
use Rattle.world_machine.specs.declared.turned.Finished.TheVariants as finished
use Rattle.penglai_main.specs.declared.solo.Printed.TheVariants as printed_is
use Rattle.penglai_main.specs.declared.status.Status.{Status}
use Rattle.penglai_main.specs.declared.status.Status.TheVariants as status_is
use Rattle.penglai_main.specs.declared.top.Command.TheVariants.{Measure, Solo}
use Rattle.penglai_main.specs.declared.unread.Unread.{Unread}
use Rattle.penglai_main.specs.declared.unread.Unread.TheVariants as unread
use Rattle.penglai_main.specs.Ends.{Ends}
use Rattle.penglai_main.specs.Play.{Gives, RunEnds, run_text}
use Rattle.penglai_main.specs.Top.{CauseFits, Explains, IsOutput, IsRefusal, MayWrite, bad_setup_text}
use Rattle.penglai_main.specs.Unread.{Declines, Obtains, Refuses}

module _ (gives other : ChoiceName → Gives) (source sink : Ends) where
  output : (end : Finished) (text : List ℕ) → IsOutput gives Measure end source text → IsOutput other Measure end source text
  output finished.Done text is = is
  output finished.Collision text is = absurd is
  output finished.Stuck text is = absurd is

  may_write : (text : List ℕ) → MayWrite gives Measure source text → MayWrite other Measure source text
  may_write text (inl is) = inl (is.0, output is.0 text is.1)
  may_write text (inr refusal) = inr refusal

  pub measures : (status : Status) → Explains gives Measure source sink status → Explains other Measure source sink status
  measures status_is.Done k = k
  measures status_is.BadWords k = k
  measures status_is.ReadFault k = k
  measures status_is.WriteFault k = (k.0, (k.1.0, may_write k.1.0 k.1.1, k.1.2))
  measures (status_is.BadSetup rule item cause) k = k
  measures status_is.NoMemory k = k
  measures status_is.Collision k = (k.0, absurd k.1, k.2)
  measures status_is.Stuck k = (k.0, absurd k.1, k.2)

module _ (gives : ChoiceName → Gives) (source sink : Ends) where
  -- a run of the setup that was read
  pub explained : (setup : SetupParts) (status : Status) → Obtains source (Ok setup) → RunEnds sha256 (gives setup.choice) setup printed_is.History sink status → Explains gives Solo source sink status
  explained setup status_is.Done read k =
      (run_text printed_is.History k.0 finished.Done, record { at_end = read.0; setup = setup; reads = read.1; world = k.0; run = k.1.0; text_is = refl }, k.1.1)
  explained setup status_is.Collision read k =
      (run_text printed_is.History k.0 finished.Collision, record { at_end = read.0; setup = setup; reads = read.1; world = k.0; run = k.1.0; text_is = refl }, k.1.1)
  explained setup status_is.Stuck read k =
      (run_text printed_is.History k.0 finished.Stuck, record { at_end = read.0; setup = setup; reads = read.1; world = k.0; run = k.1.0; text_is = refl }, k.1.1)
  explained setup status_is.WriteFault read k =
      (k.1.0, (run_text printed_is.History k.0 k.1.1.0, inl (k.1.1.0, record { at_end = read.0; setup = setup; reads = read.1; world = k.0; run = k.1.1.1; text_is = refl }), k.1.1.2))
  explained setup status_is.NoMemory read k = k
  explained setup status_is.BadWords read k = absurd k.1
  explained setup status_is.ReadFault read k = absurd k.1
  explained setup (status_is.BadSetup rule item cause) read k = absurd k.1

  -- a refused setup
  refused : (rule item : ℕ) (cause : Option Error) (status : Status) → IsRefusal Solo source rule item (bad_setup_text rule item) → CauseFits rule item cause → Refuses sink rule item cause status
      → Explains gives Solo source sink status
  refused rule item cause (status_is.BadSetup r i told) is fits k = (
    bad_setup_text rule item,
    subst (λ n. IsRefusal Solo source n i (bad_setup_text rule item)) (sym k.0) (subst (λ n. IsRefusal Solo source rule n (bad_setup_text rule item)) (sym k.1) is),
    k.3,
    subst (λ n. CauseFits n i told) (sym k.0) (subst (λ n. CauseFits rule n told) (sym k.1) (subst (CauseFits rule item) (sym k.2) fits)),
  )
  refused rule item cause status_is.WriteFault is fits k = (k.0, (bad_setup_text rule item, inr (rule, item, is), k.1))
  refused rule item cause status_is.Done is fits k = absurd k
  refused rule item cause status_is.BadWords is fits k = absurd k
  refused rule item cause status_is.ReadFault is fits k = absurd k
  refused rule item cause status_is.NoMemory is fits k = absurd k
  refused rule item cause status_is.Collision is fits k = absurd k
  refused rule item cause status_is.Stuck is fits k = absurd k

  pub declined : (why : Unread) (status : Status) → Obtains source (Err why) → Declines sink why status → Explains gives Solo source sink status
  declined unread.Memory status read k = subst (Explains gives Solo source sink) (sym k.0) k.1
  declined unread.ReadFault status read k = subst (Explains gives Solo source sink) (sym k.0) (read, k.1)
  declined (unread.Bad rule item cause) status read k = refused rule item cause status (record { takes = tt; reads = read.0; text_is = refl }) read.1 k
