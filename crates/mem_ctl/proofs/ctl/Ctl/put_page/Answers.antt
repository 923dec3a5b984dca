use Rattle.std.proofs.Common.{◌≡◌, ℕ, ◌/◌, List, arith, rules, ap, ◌∙◌, sym, subst}
use Rattle.std.specs.Prelude.{Err}
use Rattle.std.specs.Fn.{FnReturnsAt}
use Rattle.pl_base.specs.declared.place.Place.{Place}
use Rattle.mem_geom.specs.PathPlaces.{replaced_places}
use Rattle.mem_slots.specs.declared.slot_use.SlotUse.{SlotUse}
use Rattle.mem_tree.specs.Checks.{Holds as AllHold}
use Rattle.mem_ctl.specs.Access.{BothChange}
use Rattle.mem_ctl.specs.Calls.{put_page_of, with_page_at, zone_check}
use Rattle.mem_ctl.specs.Data.{CtlData, Value}
use Rattle.mem_ctl.specs.Opened.{IsOpenedZone, IsRefused}
use Rattle.mem_ctl.specs.Results.{IsCall, outcome_of}
use Rattle.mem_ctl.specs.TreesHold.{IsKept}
use Rattle.mem_ctl.proofs.AccessCalls.{access_opened, access_refused}
use Rattle.mem_ctl.proofs.CallTells.{cause_of, put_tells}
use Rattle.mem_ctl.proofs.MountLemmas.{Keeps}
use Rattle.mem_ctl.proofs.PageCalls.{with_page_at-hold, with_page_at-slots}
use Rattle.mem_ctl.proofs.ReadLemmas.{opened-keeps}
use Rattle.mem_ctl.proofs.ctl.Ctl.put_page.Goals as goal

pub replace-requires-clause-kept : goal.replace-requires-clause-kept
replace-requires-clause-kept g c =
    let d = g.D.Digester.digest_of in
    let law = g.met.D.Digester.digest_length in
    let page : ℕ = c.args.page in
    let places : List Place = c.replaced_places.result in
    let old : CtlData = c.args.self.now.0 in
    let new : CtlData = c.open_zone.new.self.0 in
    let gives : List SlotUse → ℕ → Type 0 = FnReturnsAt g.F.Fn c.args.self.now.1 in
    let kept : IsKept d old = subst (λ v. IsKept d v.0) c.self.view_is c.self.invariant in
    let h : IsOpenedZone gives d page places old new = c.in_default.ensures.ok in
    let k : Keeps d old new = subst (Keeps d old) (sym h.now) (opened-keeps d law gives old kept page c.requires.page h.between h.mounts) in
    let holds : AllHold ≡ zone_check d new (page / 64) (replaced_places page) = h.holds ∙ ap (λ (ps : List Place). zone_check d new (page / 64) ps) c.replaced_places.ensures in
    record {
      trees = with_page_at-hold d law new k.trees page (omega (arith, c.requires.page, k.zones_kept)) h.mounted c.args.bytes.now c.told-bytes holds;
      some = omega (arith, with_page_at-slots d new page c.args.bytes.now, k.slots_kept, kept.some);
      few = omega (arith, with_page_at-slots d new page c.args.bytes.now, k.slots_kept, kept.few);
    }

pub returns-in-Err : goal.returns-in-Err
unfolding put_page_of
returns-in-Err g c =
    let d = g.D.Digester.digest_of in
    let page : ℕ = c.args.page in
    let old : CtlData = c.args.self.now.0 in
    let new : CtlData = c.open_zone.new.self.0 in
    let kept : IsKept d old = subst (λ v. IsKept d v.0) c.self.view_is c.self.invariant in
    let b = c.in-Err.broken in
    let gives : List SlotUse → ℕ → Type 0 = FnReturnsAt g.F.Fn c.args.self.now.1 in
    let refused : IsRefused gives d page (replaced_places page) old b new = subst (λ (ps : List Place). IsRefused gives d page ps old b new) c.replaced_places.ensures c.in-Err.ensures.err in
    let call : IsCall gives (put_page_of d page c.args.bytes.now) old (outcome_of (Err b)) new =
    access_refused gives d {A = Unit {0}} page (replaced_places page) (λ (x : CtlData). tt) (with_page_at d page c.args.bytes.now) old b new refused in
    let all = put_tells gives d g.met.D.Digester.digest_length old kept page c.args.bytes.now c.requires.page c.told-bytes (outcome_of (Err b)) new call in
    let why = cause_of d (replaced_places page) (λ (done : Unit {0}). BothChange page (λ (was : List ℕ). c.args.bytes.now) old new) old b new all.tells in
    record { call = call; pages = tt; whole = tt; stay = why.0; leaves = all.leaves; cause = why.1; choice = search rules }

pub returns : goal.returns
unfolding put_page_of
returns g c =
    let d = g.D.Digester.digest_of in
    let page : ℕ = c.args.page in
    let old : CtlData = c.args.self.now.0 in
    let new : CtlData = c.open_zone.new.self.0 in
    let after : CtlData = c.replace.new.self.0 in
    let kept : IsKept d old = subst (λ v. IsKept d v.0) c.self.view_is c.self.invariant in
    let gives : List SlotUse → ℕ → Type 0 = FnReturnsAt g.F.Fn c.args.self.now.1 in
    let change = with_page_at d page c.args.bytes.now in
    let h : IsOpenedZone gives d page (replaced_places page) old new = subst (λ (ps : List Place). IsOpenedZone gives d page ps old new) c.replaced_places.ensures c.in_default.ensures.ok in
    let call : IsCall gives (put_page_of d page c.args.bytes.now) old (Value tt) after =
    subst (IsCall gives (put_page_of d page c.args.bytes.now) old (Value tt)) (sym (ap (λ v. v.0) c.replace.ensures))
    (access_opened gives d {A = Unit {0}} page (replaced_places page) (λ (x : CtlData). tt) change old h.between new h.mounts h.now h.holds) in
    let all = put_tells gives d g.met.D.Digester.digest_length old kept page c.args.bytes.now c.requires.page c.told-bytes (Value tt) after call in
    record { call = call; pages = all.tells; whole = all.whole; stay = tt; leaves = all.leaves; cause = tt; choice = search rules }
