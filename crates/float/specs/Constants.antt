-- To be believed. The numbers that the rules name, each the float nearest to it, by its bits, as a literal of the code has it. `f` begins an f32, `d` an f64.
-- That each is the number of its name is proved in proofs/Constants.antt.
use Rattle.std.specs.Prelude.{Float}
use Rattle.std.specs.Float.Ieee.{of_bits}
use Rattle.std.specs.Float.{binary32, binary64}

abbrev pub f0 : Float
f0 = of_bits binary32 0

abbrev pub f1/32 : Float
f1/32 = of_bits binary32 0x3d00_0000

abbrev pub f1/8 : Float
f1/8 = of_bits binary32 0x3e00_0000

abbrev pub f1/4 : Float
f1/4 = of_bits binary32 0x3e80_0000

abbrev pub f1/2 : Float
f1/2 = of_bits binary32 0x3f00_0000

abbrev pub f0_55 : Float
f0_55 = of_bits binary32 0x3f0c_cccd

abbrev pub f0_7 : Float
f0_7 = of_bits binary32 0x3f33_3333

abbrev pub f1 : Float
f1 = of_bits binary32 0x3f80_0000

abbrev pub f1_5 : Float
f1_5 = of_bits binary32 0x3fc0_0000

abbrev pub f1_6 : Float
f1_6 = of_bits binary32 0x3fcc_cccd

abbrev pub f2 : Float
f2 = of_bits binary32 0x4000_0000

abbrev pub f3 : Float
f3 = of_bits binary32 0x4040_0000

abbrev pub f3_5 : Float
f3_5 = of_bits binary32 0x4060_0000

abbrev pub f4 : Float
f4 = of_bits binary32 0x4080_0000

abbrev pub f5 : Float
f5 = of_bits binary32 0x40a0_0000

abbrev pub f6 : Float
f6 = of_bits binary32 0x40c0_0000

abbrev pub f6_5 : Float
f6_5 = of_bits binary32 0x40d0_0000

abbrev pub f7 : Float
f7 = of_bits binary32 0x40e0_0000

abbrev pub f21 : Float
f21 = of_bits binary32 0x41a8_0000

abbrev pub f0_0722 : Float
f0_0722 = of_bits binary32 0x3d93_dd98

abbrev pub f0_2126 : Float
f0_2126 = of_bits binary32 0x3e59_b3d0

abbrev pub f0_7152 : Float
f0_7152 = of_bits binary32 0x3f37_1759

abbrev pub d0 : Float
d0 = of_bits binary64 0

abbrev pub d1 : Float
d1 = of_bits binary64 0x3ff0_0000_0000_0000

abbrev pub d1e_9 : Float
d1e_9 = of_bits binary64 0x3e11_2e0b_e826_d695

abbrev pub d1e_12 : Float
d1e_12 = of_bits binary64 0x3d71_9799_812d_ea11
