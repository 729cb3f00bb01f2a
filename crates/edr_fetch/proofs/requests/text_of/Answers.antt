use Rattle.std.proofs.Common.{◌∙◌}
use Rattle.edr_fetch.proofs.RequestLemmas.{put_together}
use Rattle.edr_fetch.proofs.requests.text_of.Goals as goal

pub returns : goal.returns
returns c =
    c.from_vec.ensures
    ∙ put_together c.args.request.now _ _ _ _ _ _ _ _ c.bytes.ensures c.bytes-2.ensures c.in_ok-text.ensures.items
    c.in_ok-extend_from_slice.ensures.items c.in_ok-extend_from_slice-2.ensures.items
    c.in_ok-extend_from_slice-3.ensures.items c.in_ok-push_port.ensures c.in_ok-extend_from_slice-4.ensures.items
