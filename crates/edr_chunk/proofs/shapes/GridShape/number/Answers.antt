-- The numbers on the way fit, since each is below the count of values.
use Rattle.std.proofs.Common.{refl, arith}
use Rattle.edr_chunk.proofs.Numbers.{number_steps}
use Rattle.edr_chunk.proofs.shapes.GridShape.number.Goals as goal

pub overflow_mul-time : goal.overflow_mul-time
overflow_mul-time c = let h = number_steps c.args.self c.args.place c.requires.within in omega (arith, h.times_times, c.requires.fits)

pub overflow_add-time : goal.overflow_add-time
overflow_add-time c = let h = number_steps c.args.self c.args.place c.requires.within in omega (arith, h.with_time, c.requires.fits)

pub overflow_mul-profile : goal.overflow_mul-profile
overflow_mul-profile c = let h = number_steps c.args.self c.args.place c.requires.within in omega (arith, h.times_levels, c.requires.fits)

pub overflow_add-profile : goal.overflow_add-profile
overflow_add-profile c = let h = number_steps c.args.self c.args.place c.requires.within in omega (arith, h.with_level, c.requires.fits)

pub overflow_mul-row : goal.overflow_mul-row
overflow_mul-row c = let h = number_steps c.args.self c.args.place c.requires.within in omega (arith, h.times_rows, c.requires.fits)

pub overflow_add-row : goal.overflow_add-row
overflow_add-row c = let h = number_steps c.args.self c.args.place c.requires.within in omega (arith, h.with_row, c.requires.fits)

pub overflow_mul-result : goal.overflow_mul-result
overflow_mul-result c = let h = number_steps c.args.self c.args.place c.requires.within in omega (arith, h.times_columns, c.requires.fits)

pub overflow_add-result : goal.overflow_add-result
overflow_add-result c = let h = number_steps c.args.self c.args.place c.requires.within in omega (arith, h.with_column, c.requires.fits)

pub returns : goal.returns
returns c = record { number = refl; inside = (number_steps c.args.self c.args.place c.requires.within).with_column }
