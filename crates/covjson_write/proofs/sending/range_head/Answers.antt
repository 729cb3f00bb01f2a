use Rattle.covjson_write.proofs.sending.range_head.Goals as goal

pub keys_of-requires : goal.keys_of-requires
keys_of-requires c = rw c.items.ensures c.requires.valid.parameters
