use Rattle.std.proofs.Common.{◌≡◌, ℕ, ◌/◌, rules, ap, ◌∙◌}
use Rattle.std.specs.Prelude.{Err}
use mathlib.Core.Logic.{inr}
use Rattle.mem_geom.specs.Layout.{place_bytes}
use Rattle.mem_tree.specs.Checks.{check, Holds as AllHold}
use Rattle.mem_tree.specs.Words.{parts_of, taken_path}
use Rattle.mem_slots.specs.Slots.{is_mounted, used_slot}
use Rattle.mem_ctl.specs.Mounting.{written}
use Rattle.mem_ctl.specs.Results.{checked_of}
use Rattle.mem_ctl.proofs.ReadLemmas.{sealed_check}
use Rattle.mem_ctl.proofs.SlotLemmas.{is_mounted-map, used_slot-zone}
use Rattle.mem_ctl.proofs.ctl.Ctl.open_word.Goals as goal

pub take_word-requires-clause-mounted : goal.take_word-requires-clause-mounted
take_word-requires-clause-mounted g c =
    let zone : ℕ = c.args.page / 64 in
    ap (λ v. is_mounted v.0.mounted zone) c.count.ensures ∙ is_mounted-map (used_slot zone) (used_slot-zone zone) c.mount.new.self.0.mounted zone ∙ c.in_default.ensures.mounted

pub returns-in-Err-check_sealed-clause-err : goal.returns-in-Err-check_sealed-clause-err
returns-in-Err-check_sealed-clause-err g c =
    let d = g.D.Digester.digest_of in
    let i = c.self-2.inside in
    let is : checked_of (Err c.in-Err-check_sealed.broken) ≡ check d (taken_path c.seal-sealed.result) (place_bytes i.zones i.mirror) = search rules in
    inr (record {
      between = c.mount.new.self.0;
      mounts = c.in_default.ensures.call;
      now = ap (λ v. v.0) c.count.ensures;
      is = is ∙ ap (λ v. check d (taken_path c.seal-sealed.result) (written v.0)) c.self-2.view_is ∙ ap (λ t. check d (taken_path t) (written c.count.new.self.0)) c.seal-sealed.ensures
          ∙ sealed_check d c.count.new.self.0 c.args.page c.args.block c.take_word.result c.requires.block c.take_word.ensures.page c.take_word.ensures.block c.take_word.ensures.parts;
    })

pub returns-clause-ok : goal.returns-clause-ok
returns-clause-ok g c =
    let d = g.D.Digester.digest_of in
    let i = c.self-2.inside in
    let zone : ℕ = c.args.page / 64 in
    let is : AllHold ≡ check d (taken_path c.seal-sealed.result) (place_bytes i.zones i.mirror) = search rules in
    let sealed = c.seal-sealed.ensures in
    record {
      between = c.mount.new.self.0;
      mounts = c.in_default.ensures.call;
      now = ap (λ v. v.0) c.count.ensures;
      own_page = ap (λ t. t.page) sealed ∙ c.take_word.ensures.page;
      own_block = ap (λ t. t.block_no) sealed ∙ c.take_word.ensures.block;
      parts = ap (λ t. parts_of t) sealed ∙ c.take_word.ensures.parts;
      mounted = ap (λ v. is_mounted v.0.mounted zone) c.count.ensures ∙ is_mounted-map (used_slot zone) (used_slot-zone zone) c.mount.new.self.0.mounted zone ∙ c.in_default.ensures.mounted;
      holds = is ∙ ap (λ v. check d (taken_path c.seal-sealed.result) (written v.0)) c.self-2.view_is ∙ ap (λ t. check d (taken_path t) (written c.count.new.self.0)) sealed
          ∙ sealed_check d c.count.new.self.0 c.args.page c.args.block c.take_word.result c.requires.block c.take_word.ensures.page c.take_word.ensures.block c.take_word.ensures.parts;
    }
