-- The whole image is written in seven parts.
use mathlib.Core.Path.{◌≡◌, ap}
use mathlib.Core.Bool.{Bool}
use mathlib.Core.List.{List, ◌++◌}
use Prim.Native.Nat.{ℕ, ◌+◌}
use lib.ListN.{length}
use Rattle.image_frames.specs.Kinds as Kinds
use Rattle.image_header.specs.declared.sizes.Sizes.{Sizes}
use Rattle.image_bodies.specs.declared.point_counts.PointCounts.{PointCounts}
use Rattle.image_bodies.specs.PointCounts.{point_counts, obligation_count}
use Rattle.trim_encode.specs.Pieces.{joined}
use Rattle.trim_encode.specs.Records.{record_bytes, record_piece, live_piece, list_bytes}
use Rattle.trim_encode.specs.WholeImage.{formulas_bytes, threads_bytes, outline_bytes, lines_bytes, obligations_bytes, claims_bytes, whole_bytes}
use Rattle.trim_encode.specs.Writing.{Puts, Room}
use Rattle.trim_encode.specs.declared.writer.Writer.{Writer}
use Rattle.trim_encode.proofs.Writes.{then_put, first_room, next_room}

pub points_are : (z : Sizes) (l : List (List ℕ)) (c : PointCounts) → c ≡ point_counts z l → c.points ≡ (point_counts z l).points
points_are z l c e = ap (λ (x : PointCounts). x.points) e

-- a formulas, b threads, p points, n lines, o obligations and m claims
module _ (z : Sizes) (f g : List ℕ) (l : List (List ℕ)) (u k : List Bool) (a b p n o m : ℕ) (ea : a ≡ z.formulas) (eb : b ≡ z.threads)
    (ep : p ≡ (point_counts z l).points) (en : n ≡ z.lines) (eo : o ≡ obligation_count z l) (em : m ≡ z.claims) where
  abbrev formulas : List ℕ
  formulas = joined (live_piece f g l u Kinds.formula 1) a

  abbrev threads : List ℕ
  threads = joined (record_piece f g l Kinds.thread (a + 1)) b

  abbrev outline : List ℕ
  outline = list_bytes f l Kinds.outline (a + b + 1) p

  abbrev lines : List ℕ
  lines = joined (live_piece f g l k Kinds.line (a + b + 2)) n

  abbrev obligations : List ℕ
  obligations = list_bytes g l Kinds.obligations (a + b + 1 + n + 1) o

  abbrev claims : List ℕ
  claims = joined (record_piece f g l Kinds.claim (a + b + 1 + n + 2)) m

  parts : whole_bytes z f g l u k
      ≡ record_bytes f g l Kinds.header 0 ++ (formulas ++ (threads ++ (outline ++ (lines ++ (obligations ++ claims)))))
  unfolding whole_bytes formulas_bytes threads_bytes outline_bytes lines_bytes obligations_bytes claims_bytes
  parts = rw (ea, eb, ep, en, eo, em)

  module _ (w₀ : Writer) (room : Room w₀ (length (whole_bytes z f g l u k))) where
    whole : Room w₀ (length (record_bytes f g l Kinds.header 0 ++ (formulas ++ (threads ++ (outline ++ (lines ++ (obligations ++ claims)))))))
    whole = rw parts at room

    pub header_room : Room w₀ (length (record_bytes f g l Kinds.header 0))
    header_room = first_room w₀ _ _ whole

    module _ (w₁ : Writer) (p₁ : Puts w₀ w₁ (record_bytes f g l Kinds.header 0)) where
      from_formulas : Room w₁ (length (formulas ++ (threads ++ (outline ++ (lines ++ (obligations ++ claims))))))
      from_formulas = next_room w₀ w₁ (record_bytes f g l Kinds.header 0) _ whole p₁

      pub formulas_room : Room w₁ (length formulas)
      formulas_room = first_room w₁ formulas _ from_formulas

      module _ (w₂ : Writer) (p₂ : Puts w₁ w₂ formulas) where
        from_threads : Room w₂ (length (threads ++ (outline ++ (lines ++ (obligations ++ claims)))))
        from_threads = next_room w₁ w₂ formulas _ from_formulas p₂

        pub threads_room : Room w₂ (length threads)
        threads_room = first_room w₂ threads _ from_threads

        module _ (w₃ : Writer) (p₃ : Puts w₂ w₃ threads) where
          from_outline : Room w₃ (length (outline ++ (lines ++ (obligations ++ claims))))
          from_outline = next_room w₂ w₃ threads _ from_threads p₃

          pub outline_room : Room w₃ (length outline)
          outline_room = first_room w₃ outline _ from_outline

          module _ (w₄ : Writer) (p₄ : Puts w₃ w₄ outline) where
            from_lines : Room w₄ (length (lines ++ (obligations ++ claims)))
            from_lines = next_room w₃ w₄ outline _ from_outline p₄

            pub lines_room : Room w₄ (length lines)
            lines_room = first_room w₄ lines _ from_lines

            module _ (w₅ : Writer) (p₅ : Puts w₄ w₅ lines) where
              from_obligations : Room w₅ (length (obligations ++ claims))
              from_obligations = next_room w₄ w₅ lines _ from_lines p₅

              pub obligations_room : Room w₅ (length obligations)
              obligations_room = first_room w₅ obligations _ from_obligations

              module _ (w₆ : Writer) (p₆ : Puts w₅ w₆ obligations) where
                pub claims_room : Room w₆ (length claims)
                claims_room = next_room w₅ w₆ obligations claims from_obligations p₆

                pub whole_put : (w₇ : Writer) → Puts w₆ w₇ claims → Puts w₀ w₇ (whole_bytes z f g l u k)
                whole_put w₇ p₇ =
                    rw parts (then_put p₁ (then_put p₂ (then_put p₃ (then_put p₄ (then_put p₅ (then_put p₆ p₇))))))
