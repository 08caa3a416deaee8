-- Numbers to bytes and back, one law each way for every width.
use Prim.Native.Nat.{ℕ, zero, suc, ◌+◌, ◌*◌, ◌/◌, ◌%◌, ◌^◌, ◌<◌, ◌≤◌}
use mathlib.Core.Path.{◌≡◌, refl}
use mathlib.Core.List.{List, [], ◌∷◌, ◌++◌, append_assoc}
use native.Mathlib.Nat.{pow-suc, mod-lt}
use native.Mathlib.Omega.{arith}
use lib.ListN.{length, get_or, take, length-append}
use lib.Seq.{take-suc, get_or_at}
use Rattle.wire.specs.Lists.{Bytes}
use Rattle.wire.proofs.Lists.{IsByte, byte_at, every_append}
use Rattle.wire.specs.Numbers.{decode_number, encode_number}

pub encode_decode : (w : ℕ) (s : List ℕ) → Bytes s → w ≤ length s → encode_number w (decode_number w s) ≡ take w s
encode_decode zero s h l = refl
encode_decode (suc w) s h l =
    let b = byte_at s h w in
    let d : (decode_number w s * 256 + get_or s w 0) / 256 ≡ decode_number w s = omega arith in
    let m : (decode_number w s * 256 + get_or s w 0) % 256 ≡ get_or s w 0 = omega arith in
    rw (d, m, encode_decode w s h (omega arith), take-suc s w 0 l)

pub length_encode : (w x : ℕ) → length (encode_number w x) ≡ w
length_encode zero x = refl
length_encode (suc w) x = simp (length-append, length_encode w (x / 256)) (omega arith)

-- whatever stands behind the number
pub decode_encode : (w x : ℕ) (q : List ℕ) → x < 256 ^ w → decode_number w (encode_number w x ++ q) ≡ x
decode_encode zero x q h = omega arith
decode_encode (suc w) x q h =
    let k = rw pow-suc at h in
    let l : x / 256 < 256 ^ w = omega arith in
    rw (append_assoc, decode_encode w (x / 256) (x % 256 ∷ q) l, get_or_at (encode_number w (x / 256)) (x % 256) q 0 w (length_encode w (x / 256))) (omega arith)

pub decode_lt : (w : ℕ) (s : List ℕ) → Bytes s → decode_number w s < 256 ^ w
decode_lt zero s h = omega arith
decode_lt (suc w) s h = let b = byte_at s h w in let ih = decode_lt w s h in rw pow-suc (omega arith)

pub encode_bytes : (w x : ℕ) → Bytes (encode_number w x)
encode_bytes zero x = tt
encode_bytes (suc w) x =
    every_append IsByte (encode_number w (x / 256)) (x % 256 ∷ []) (encode_bytes w (x / 256)) (mod-lt x (omega arith), tt)
