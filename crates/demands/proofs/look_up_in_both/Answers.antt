-- `demands::look_up_in_both` meets its contract: both answers are the definition's, and neither order nor encoding plays a part.
use Rattle.slices.specs.Bytes.{AllBytes}
use Rattle.refusals.specs.Limit.{pack_limit}
use Rattle.current_version.proofs.Bytes.{rearranged_packs_answer_alike}
use Rattle.demands_laws.specs.Sites.{sites_look_up_alike}
use Rattle.demands.proofs.look_up_in_both.Goals as goal

pub returns : goal.returns
returns c =
    let slices = c in
    let first : AllBytes slices.args.first.now = record { below = λ k. (slices.type_inv.first k).fits } in
    let second : AllBytes slices.args.second.now = record { below = λ k. (slices.type_inv.second k).fits } in
    record {
      first_is = c.lookup-found.ensures.result_value;
      second_is = c.lookup.ensures.result_value;
      first_inside = c.lookup-found.ensures.inside;
      second_inside = c.lookup.ensures.inside;
      alike = λ p q same one name. rw (c.lookup-found.ensures.result_value, c.lookup.ensures.result_value)
          (rearranged_packs_answer_alike pack_limit _ _ _ _ first second p q same one name);
      sites = λ x. rw (c.lookup-found.ensures.result_value, c.lookup.ensures.result_value) (sites_look_up_alike pack_limit _ _ _ _ x);
    }
