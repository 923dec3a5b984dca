use Rattle.std.proofs.Common.{◌≡◌, ℕ, ◌/◌, ◌%◌, List, rules, ap, ◌∙◌, sym, subst}
use Rattle.std.specs.Prelude.{Err}
use Rattle.std.specs.Fn.{FnReturnsAt}
use Rattle.byteorder.specs.Endian.{little_number}
use Rattle.pl_base.specs.Bytes.{bytes_at}
use Rattle.mem_geom.specs.PathPlaces.{word_places}
use Rattle.mem_slots.specs.declared.slot_use.SlotUse.{SlotUse}
use Rattle.mem_tree.specs.declared.new_path.NewPath.{NewPath}
use Rattle.mem_ctl.specs.Calls.{read_word_of}
use Rattle.mem_ctl.specs.Data.{CtlData, Value}
use Rattle.mem_ctl.specs.Laws.{WordIsRead}
use Rattle.mem_ctl.specs.Results.{IsCall, outcome_of}
use Rattle.mem_ctl.specs.TreesHold.{IsKept}
use Rattle.mem_ctl.specs.Writes.{word_at}
use Rattle.mem_ctl.proofs.AccessCalls.{access_opened, access_refused}
use Rattle.mem_ctl.proofs.CallTells.{cause_of, read_tells}
use Rattle.mem_ctl.proofs.WordCalls.{word_of_block}
use Rattle.mem_ctl.proofs.ctl.Ctl.read_word.Goals as goal

pub returns-in-Ok : goal.returns-in-Ok
unfolding read_word_of
returns-in-Ok g c =
    let d = g.D.Digester.digest_of in
    let page : ℕ = c.args.page in
    let offset : ℕ = c.args.offset in
    let old : CtlData = c.args.self.now.0 in
    let new : CtlData = c.open_word.new.self.0 in
    let kept : IsKept d old = subst (λ v. IsKept d v.0) c.self.view_is c.self.invariant in
    let gives : List SlotUse → ℕ → Type 0 = FnReturnsAt g.F.Fn c.args.self.now.1 in
    let h = c.in-Ok.ensures.ok in
    let value = λ (x : CtlData). word_at x.off_chip page offset in
    let word : c.word_in.result ≡ value new =
    c.word_in.ensures ∙ ap (λ t. little_number 8 (bytes_at t.block (offset % 64) 8)) c.taken.ensures.taken ∙ ap (λ (q : NewPath). little_number 8 (bytes_at q.block (offset % 64) 8)) h.parts
    ∙ word_of_block new.zones new.off_chip page offset c.requires.aligned in
    let call : IsCall gives (read_word_of d page offset) old (Value c.word_in.result) new =
    subst (λ (w : ℕ). IsCall gives (read_word_of d page offset) old (Value w) new) (sym word)
    (access_opened gives d page (word_places page (offset / 64)) value (λ (x : CtlData). x) old h.between new h.mounts h.now h.holds) in
    let all = read_tells gives d g.met.D.Digester.digest_length old kept page offset c.requires.page c.requires.offset c.requires.aligned (Value c.word_in.result) new call in
    record { call = call; word = all.tells.as_written; held = all.tells.as_held; whole = all.whole; stay = all.tells.pages; leaves = all.leaves; cause = tt; choice = search rules }

pub returns-in-Err : goal.returns-in-Err
unfolding read_word_of
returns-in-Err g c =
    let d = g.D.Digester.digest_of in
    let page : ℕ = c.args.page in
    let offset : ℕ = c.args.offset in
    let places = word_places page (offset / 64) in
    let old : CtlData = c.args.self.now.0 in
    let new : CtlData = c.open_word.new.self.0 in
    let kept : IsKept d old = subst (λ v. IsKept d v.0) c.self.view_is c.self.invariant in
    let b = c.in-Err.broken in
    let gives : List SlotUse → ℕ → Type 0 = FnReturnsAt g.F.Fn c.args.self.now.1 in
    let call : IsCall gives (read_word_of d page offset) old (outcome_of (Err b)) new = access_refused gives d page places (λ (x : CtlData). word_at x.off_chip page offset) (λ (x : CtlData). x) old b new c.in-Err.ensures.err in
    let all = read_tells gives d g.met.D.Digester.digest_length old kept page offset c.requires.page c.requires.offset c.requires.aligned (outcome_of (Err b)) new call in
    let why = cause_of d places (WordIsRead page offset old new) old b new all.tells in
    record { call = call; word = tt; held = tt; whole = tt; stay = why.0; leaves = all.leaves; cause = why.1; choice = search rules }
