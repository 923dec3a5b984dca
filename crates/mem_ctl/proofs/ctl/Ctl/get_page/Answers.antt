use Rattle.std.proofs.Common.{◌≡◌, ℕ, ◌-◌, ◌*◌, ◌/◌, List, arith, rules, ap, ◌∙◌, sym, subst}
use Rattle.std.specs.Prelude.{All, Err, length}
use Rattle.std.specs.Fn.{FnReturnsAt}
use Rattle.pl_base.specs.Bytes.{bytes_at}
use Rattle.pl_base.specs.declared.place.Place.{Place}
use Rattle.mem_geom.specs.Layout.{Exists}
use Rattle.mem_geom.specs.Parts.{page_bytes}
use Rattle.mem_geom.specs.PathPlaces.{page_places}
use Rattle.mem_slots.specs.declared.slot_use.SlotUse.{SlotUse}
use Rattle.mem_tree.specs.Checks.{IsTopDown}
use Rattle.mem_tree.proofs.LinkedPaths.{paths_are_top_down}
use Rattle.mem_ctl.specs.Calls.{get_page_of}
use Rattle.mem_ctl.specs.Data.{CtlData, Outcome, Value}
use Rattle.mem_ctl.specs.Laws.{PageIsRead}
use Rattle.mem_ctl.specs.Opened.{IsOpenedZone, IsRefused}
use Rattle.mem_ctl.specs.Results.{IsCall, outcome_of}
use Rattle.mem_ctl.specs.TreesHold.{IsKept}
use Rattle.mem_ctl.proofs.AccessCalls.{access_opened, access_refused}
use Rattle.mem_ctl.proofs.CallTells.{cause_of, get_tells}
use Rattle.mem_ctl.proofs.PageCalls.{got_broken}
use Rattle.mem_ctl.proofs.ZoneLemmas.{of_zone-exists, page-of_zone}
use Rattle.mem_ctl.proofs.ctl.Ctl.get_page.Goals as goal

pub open_zone-requires-clause-exist : goal.open_zone-requires-clause-exist
open_zone-requires-clause-exist g c =
    let zones : ℕ = c.args.self.now.0.zones in
    subst (λ (ps : List Place). All (λ (p : Place). Exists zones p) ps) (sym c.page_places.ensures)
    (λ k e h. of_zone-exists zones (c.args.page / 64) (omega (arith, c.requires.page)) _ (page-of_zone c.args.page k e h))

pub open_zone-requires-clause-top_down : goal.open_zone-requires-clause-top_down
open_zone-requires-clause-top_down g c = subst IsTopDown (sym c.page_places.ensures) (paths_are_top_down.pages c.args.page)

pub returns-in-Err : goal.returns-in-Err
unfolding get_page_of
returns-in-Err g c =
    let d = g.D.Digester.digest_of in
    let page : ℕ = c.args.page in
    let old : CtlData = c.args.self.now.0 in
    let new : CtlData = c.open_zone.new.self.0 in
    let kept : IsKept d old = subst (λ v. IsKept d v.0) c.self.view_is c.self.invariant in
    let b = c.in-Err.broken in
    let gives : List SlotUse → ℕ → Type 0 = FnReturnsAt g.F.Fn c.args.self.now.1 in
    let refused : IsRefused gives d page (page_places page) old b new = subst (λ (ps : List Place). IsRefused gives d page ps old b new) c.page_places.ensures c.in-Err.ensures.err in
    let call : IsCall gives (get_page_of d page) old (outcome_of (Err b)) new = access_refused gives d page (page_places page) (λ (x : CtlData). page_bytes x.off_chip page) (λ (x : CtlData). x) old b new refused in
    let all = get_tells gives d g.met.D.Digester.digest_length old kept page c.requires.page (outcome_of (Err b)) new call in
    let why = cause_of d (page_places page) (PageIsRead page old new) old b new all.tells in
    record {
      call = subst (λ (o : Outcome (List ℕ)). IsCall gives (get_page_of d page) old o new) (sym (got_broken c.args.into.now b)) call;
      page = tt;
      held = tt;
      whole = tt;
      stay = why.0;
      leaves = all.leaves;
      cause = why.1;
      err = search rules;
      choice = search rules;
    }

pub returns : goal.returns
unfolding get_page_of
returns g c =
    let d = g.D.Digester.digest_of in
    let page : ℕ = c.args.page in
    let old : CtlData = c.args.self.now.0 in
    let new : CtlData = c.open_zone.new.self.0 in
    let kept : IsKept d old = subst (λ v. IsKept d v.0) c.self.view_is c.self.invariant in
    let gives : List SlotUse → ℕ → Type 0 = FnReturnsAt g.F.Fn c.args.self.now.1 in
    let value = λ (x : CtlData). page_bytes x.off_chip page in
    let h : IsOpenedZone gives d page (page_places page) old new = subst (λ (ps : List Place). IsOpenedZone gives d page ps old new) c.page_places.ensures c.in_default.ensures.ok in
    let off : List ℕ = c.self-2.inside.off_chip in
    let at : c.page_start.result - 0x80000000 ≡ 4096 * page = omega (arith, c.page_start.ensures) in
    let got : c.read.new.into ≡ value new =
    c.read.ensures ∙ ap (λ (k : ℕ). bytes_at off k (length c.args.into.now)) at ∙ ap (λ (n : ℕ). bytes_at off (4096 * page) n) c.told-into ∙ ap (λ v. page_bytes v.0.off_chip page) c.self-2.view_is in
    let call : IsCall gives (get_page_of d page) old (Value c.read.new.into) new =
    subst (λ (bytes : List ℕ). IsCall gives (get_page_of d page) old (Value bytes) new) (sym got) (access_opened gives d page (page_places page) value (λ (x : CtlData). x) old h.between new h.mounts h.now h.holds) in
    let all = get_tells gives d g.met.D.Digester.digest_length old kept page c.requires.page (Value c.read.new.into) new call in
    record { call = call; page = all.tells.as_written; held = all.tells.as_held; whole = all.whole; stay = all.tells.pages; leaves = all.leaves; cause = tt; err = tt; choice = search rules }
